-- The replies of commands, worked: what the row of each is replied, what an answer is, and the replies of a lane's whole stories.
use Rattle.std.proofs.Common.{◌≡◌, refl, ℕ, ◌+◌, true, false, Option, Some, None, List, [], ◌∷◌, ◌++◌, drop}
use Rattle.std.specs.Fmt.{digits}
use Rattle.std.specs.Prelude.{codes, reverse}
use Rattle.cc_names.specs.declared.commands.Command.{Command}
use Rattle.cc_names.specs.declared.commands.Command.TheVariants as commands
use Rattle.cc_names.specs.declared.commands.Query.TheVariants as queries
use Rattle.cc_names.specs.declared.commands.Change.TheVariants as changes
use Rattle.cc_names.specs.declared.commands.Phase.{Phase}
use Rattle.cc_names.specs.declared.refusals.Refusal.TheVariants as refusals
use Rattle.cc_names.specs.declared.replies.Digest.{Digest}
use Rattle.cc_names.specs.declared.replies.Reply.{Reply}
use Rattle.cc_names.specs.declared.replies.Reply.TheVariants as replies
use Rattle.cc_names.specs.declared.replies.UnitWord.{UnitWord}
use Rattle.cc_names.specs.declared.replies.UnitWord.TheVariants as words
use Rattle.cc_names.specs.declared.rows.Deed.{Deed}
use Rattle.cc_names.specs.declared.rows.Deed.TheVariants as deeds
use Rattle.cc_names.specs.declared.rows.Kind.TheVariants.{File}
use Rattle.cc_names.specs.declared.rows.Out.TheVariants as outs
use Rattle.cc_names.specs.declared.rows.TypeKind.TheVariants as type_kinds
use Rattle.cc_names.specs.declared.steps.StoryStep.{StoryStep}
use Rattle.cc_names.specs.declared.steps.StoryStep.TheVariants as story_steps
use Rattle.legal_history.specs.Builds.Replied.{digest_of}
use Rattle.base_model.specs.Rows.{Base}
use Rattle.legal_history.specs.Stories.States.{all_done}
use Rattle.legal_history.specs.Stories.Steps.{state_of}
use Rattle.legal_history.specs.Queries.VersionNames.{line}
use Rattle.legal_history.specs.Worked.{tag, row, base_of}
use Rattle.legal_history.proofs.Worked.TwoViews.{v, w, hi, script, first_commands, first_deeds, all_deeds, two_views, clearmake}
use Rattle.legal_history.proofs.Worked.TwoViews.{publish}
use Rattle.base_core.specs.Story.Replying.{reply_to_row, reply_to_answer, replies_of}

-- the replies to the rows of a base, newest first; a row of a build has none
abbrev newest_first : Base → List (Option Reply)
newest_first [] = []
newest_first (row ∷ older) = reply_to_row (row ∷ older) row.deed ∷ newest_first older

-- those after the first twelve rows, oldest first
abbrev replies_behind : List Deed → List (Option Reply)
replies_behind deeds = drop 12 (reverse (newest_first (base_of (all_deeds ++ deeds))))

abbrev ok : Option Reply
ok = Some replies.Good

abbrev ok_version : List ℕ → Option Reply
ok_version name = Some (replies.Version name)

abbrev ok_count : ℕ → Option Reply
ok_count count = Some (replies.Count count)

abbrev a_file : List ℕ
a_file = codes "in"

abbrev foo : List ℕ
foo = line (codes "foo")

abbrev bar : List ℕ
bar = line (codes "bar")

-- two views, elements that are made and brought in, a publish and a wink
two_views_are_replied :
    reverse (newest_first two_views)
    ≡ ok ∷ ok_version (codes "/main/0") ∷ ok ∷ ok ∷ ok_version (codes "/main/1") ∷ ok ∷ ok ∷ ok_version (codes "/main/1")
    ∷ ok_version (codes "/main/1")
    ∷ None ∷ ok ∷ None ∷ []
unfolding digits
two_views_are_replied = refl

-- an object that is dropped twice and scrubbed, and one more; the scrub before found nothing
a_scrub_counts : replies_behind (deeds.Drop w (codes "out") ∷ deeds.Drop v (codes "out") ∷ deeds.Scrub (10 ∷ []) ∷ []) ≡ ok ∷ ok
    ∷ ok_count 1 ∷ []
a_scrub_counts = refl

nothing_is_counted : reply_to_answer (Some (commands.Change (changes.Scrub 0))) [] ≡ replies.Count 0
nothing_is_counted = refl

-- two views take one element out, and one of them brings it in
checkouts_name_their_versions :
    replies_behind (deeds.Checkout v 6 8 false ∷ deeds.Checkout w 6 8 true ∷ deeds.Save v 6 foo ∷ deeds.Save w 6 bar
    ∷ deeds.Checkin w 6 ∷ deeds.Uncheckout v 6 ∷ deeds.Checkout v 6 17 true ∷ [])
    ≡ ok_version (codes "/main/1") ∷ ok_version (codes "/main/1") ∷ ok ∷ ok ∷ ok_version (codes "/main/2") ∷ ok
    ∷ ok_version (codes "/main/2") ∷ []
unfolding digits
checkouts_name_their_versions = refl

-- a view takes an element out of which another builds
a_checkout_names_its_version : replies_behind (deeds.Checkout w 6 8 true ∷ []) ≡ ok_version (codes "/main/1") ∷ []
unfolding digits
a_checkout_names_its_version = refl

-- a second version, and a view that selects by time
a_second_version_is_named :
    reverse (newest_first (base_of (deeds.Mkview v ∷ deeds.Checkout v 0 0 true ∷ deeds.Mkelem v 0 a_file File true
    ∷ deeds.Save v 3 foo ∷ deeds.Checkin v 3
    ∷ deeds.Checkin v 0 ∷ deeds.Checkout v 3 5 true ∷ deeds.Save v 3 bar ∷ deeds.Checkin v 3 ∷ deeds.Mkview w
    ∷ deeds.Setcs w (line (codes "element in /main/LATEST -time 14-Nov-2023.22:13:21")) ∷ [])))
    ≡ ok ∷ ok_version (codes "/main/0") ∷ ok ∷ ok ∷ ok_version (codes "/main/1") ∷ ok_version (codes "/main/1")
    ∷ ok_version (codes "/main/1") ∷ ok
    ∷ ok_version (codes "/main/2") ∷ ok ∷ ok ∷ []
unfolding digits
a_second_version_is_named = refl

-- a view that selects by a record
a_spec_is_well : replies_behind (deeds.Mkview (codes "x") ∷ deeds.Setcs (codes "x") (line (codes "element in -config out@@10"))
    ∷ []) ≡ ok ∷ ok ∷ []
a_spec_is_well = refl

-- a config spec whose third rule makes a branch
abbrev branching : List ℕ
branching =
    line (codes "element * CHECKEDOUT") ++ line (codes "element in .../fix/LATEST")
    ++ line (codes "element in /main/LATEST -mkbranch fix") ++ line (codes "element * /main/LATEST -nocheckout")

a_branch_is_named :
    replies_behind (deeds.Mktype type_kinds.Branch (codes "fix") ∷ deeds.Setcs w branching
    ∷ deeds.Branch w 6 8 (codes "fix") outs.Reserved
    ∷ deeds.Save w 6 foo ∷ deeds.Checkin w 6 ∷ deeds.Checkout w 6 17 true ∷ [])
    ≡ ok ∷ ok ∷ ok_version (codes "/main/fix/0") ∷ ok ∷ ok_version (codes "/main/fix/1") ∷ ok_version (codes "/main/fix/1") ∷ []
unfolding digits
a_branch_is_named = refl

-- `mkbranch`, and an arrow from what was made there
an_arrow_is_well :
    replies_behind (deeds.Mktype type_kinds.Branch (codes "fix") ∷ deeds.Branch v 6 8 (codes "fix") outs.Reserved
    ∷ deeds.Save v 6 foo
    ∷ deeds.Checkin v 6 ∷ deeds.Arrow 6 16 8 ∷ [])
    ≡ ok ∷ ok_version (codes "/main/fix/0") ∷ ok ∷ ok_version (codes "/main/fix/1") ∷ ok ∷ []
unfolding digits
an_arrow_is_well = refl

a_label_is_well : replies_behind (deeds.Mktype type_kinds.Label (codes "REL") ∷ deeds.Label (codes "REL") 6 8 ∷ []) ≡ ok ∷ ok ∷ []
a_label_is_well = refl

-- a record is labelled, its source gets a newer version, and a third view takes its object in
a_record_counts :
    replies_behind (deeds.Mktype type_kinds.Label (codes "REL") ∷ deeds.Labels (codes "REL")
    (record { element = 6; version = 8 } ∷ [])
    ∷ deeds.Checkout v 6 8 true ∷ deeds.Save v 6 foo ∷ deeds.Checkin v 6 ∷ deeds.Mkview (codes "x") ∷ deeds.Wink (codes "x") 10
    ∷ [])
    ≡ ok ∷ ok_count 1 ∷ ok_version (codes "/main/1") ∷ ok ∷ ok_version (codes "/main/2") ∷ ok ∷ None ∷ []
unfolding digits
a_record_counts = refl

-- a record that lists no version is answered
no_label_is_counted : reply_to_answer (Some (commands.Change (changes.MklabelConfig v false (codes "out") (codes "REL")))) []
    ≡ replies.Count 0
no_label_is_counted = refl

a_question_is_answered : reply_to_answer (Some (commands.Query (queries.Covers v w (codes "out")))) (line (codes "covered"))
    ≡ replies.Answer (line (codes "covered"))
a_question_is_answered = refl

-- One lane's story: elements are made, one view builds, and the other takes the object in. As long as builds reuse no object, no
-- story with this wink is legal, and it is told here as it will be.
abbrev all_commands : List Command → List Command
all_commands more = first_commands ++ (clearmake v ∷ commands.Change (changes.Mkview w) ∷ clearmake w ∷ more)

abbrev one_lane : List Command → Phase
one_lane more = record { lanes = record { name = codes "a"; commands = all_commands more } ∷ [] }

-- the commits of rows, by commands numbered from n on, each four calls of the disk after the one before
abbrev commits : ℕ → ℕ → List Deed → List StoryStep
commits n tick [] = []
commits n tick (deed ∷ deeds) = story_steps.Commit (row n deed) (tick + 4) ∷ commits (n + 1) (tick + 4) deeds

-- the steps of the first twelve commands, where the lane has more
abbrev first_steps : List Command → List StoryStep
first_steps more =
    story_steps.Opened [] (record { ticks = 0; faults = 0 }) true
    ∷ story_steps.PhaseBegun (one_lane more) 1700000000
    ∷ commits 1 3 first_deeds
    ++ (story_steps.Begin (tag 1 1 10) 10 1
    ∷ story_steps.Start (tag 1 1 10) 0
    ∷ story_steps.Commit (row 10 publish) 43
    ∷ story_steps.End (tag 1 1 10)
    ∷ story_steps.Commit (row 11 (deeds.Mkview w)) 47
    ∷ story_steps.Begin (tag 1 1 12) 12 1
    ∷ story_steps.Commit (row 12 (deeds.Wink w 10)) 51
    ∷ story_steps.End (tag 1 1 12)
    ∷ [])

-- the one line `out WORD 3 DIGEST`, of three bytes
abbrev out_line : (Digest → UnitWord) → Reply
out_line word = replies.Built (record { path = codes "out"; word = word (digest_of hi) } ∷ [])

the_length_is_replied : (digest_of hi).length ≡ 3
the_length_is_replied = refl

-- the replies to the first twelve commands
abbrev first_replies : List Reply
first_replies =
    replies.Good
    ∷ replies.Version (codes "/main/0")
    ∷ replies.Good
    ∷ replies.Good
    ∷ replies.Version (codes "/main/1")
    ∷ replies.Good
    ∷ replies.Good
    ∷ replies.Version (codes "/main/1")
    ∷ replies.Version (codes "/main/1")
    ∷ out_line words.Made
    ∷ replies.Good
    ∷ out_line words.Winked
    ∷ []

the_lane_is_replied : replies_of (first_steps []) 1 ≡ first_replies
unfolding digits
the_lane_is_replied = refl

no_other_lane_is_replied : replies_of (first_steps []) 2 ≡ []
no_other_lane_is_replied = refl

-- both views drop the object, one scrub finds nothing and one takes it, a view builds again, and a question
abbrev scrubbing : List Command
scrubbing = commands.Change (changes.Rmdo w (codes "out")) ∷ commands.Change (changes.Scrub 0)
    ∷ commands.Change (changes.Rmdo v (codes "out")) ∷ commands.Change (changes.Scrub 0) ∷ clearmake w
    ∷ commands.Query (queries.Lsdo v) ∷ []

abbrev scrub_story : List StoryStep
scrub_story =
    first_steps scrubbing
    ++ (story_steps.Commit (row 13 (deeds.Drop w (codes "out"))) 55
    ∷ story_steps.Answer (tag 1 1 14) []
    ∷ story_steps.Commit (row 15 (deeds.Drop v (codes "out"))) 59
    ∷ story_steps.Commit (row 16 (deeds.Scrub (10 ∷ []))) 63
    ∷ story_steps.Begin (tag 1 1 17) 16 1
    ∷ story_steps.Start (tag 1 1 17) 0
    ∷ story_steps.Commit (row 17 (deeds.Publish w (codes "out" ∷ []) script (record { path = a_file; row = 8 } ∷ []) (hi ∷ [])))
    67
    ∷ story_steps.End (tag 1 1 17)
    ∷ story_steps.Answer (tag 1 1 18) []
    ∷ [])

scrubs_are_finished : all_done (state_of scrub_story) ≡ true
scrubs_are_finished = refl

scrubs_are_replied :
    replies_of scrub_story 1
    ≡ first_replies
    ++ (replies.Good
    ∷ replies.Count 0
    ∷ replies.Good
    ∷ replies.Count 1
    ∷ out_line words.Made
    ∷ replies.Answer []
    ∷ [])
unfolding digits
scrubs_are_replied = refl

-- two views take one element out, and three checkins are refused
abbrev checking_out : List Command
checking_out =
    commands.Change (changes.Checkout v true a_file)
    ∷ commands.Change (changes.Checkout w false a_file)
    ∷ commands.Change (changes.Save v a_file foo)
    ∷ commands.Change (changes.Checkin v false a_file)
    ∷ commands.Change (changes.Save w a_file bar)
    ∷ commands.Change (changes.Checkin w false a_file)
    ∷ commands.Change (changes.Checkin v false a_file)
    ∷ commands.Change (changes.Uncheckout v a_file)
    ∷ commands.Change (changes.Checkout v false a_file)
    ∷ commands.Change (changes.Checkin v false a_file)
    ∷ []

abbrev checkout_story : List StoryStep
checkout_story =
    first_steps checking_out
    ++ (commits 13 51 (deeds.Checkout v 6 8 false ∷ deeds.Checkout w 6 8 true ∷ deeds.Save v 6 foo ∷ [])
    ++ (story_steps.Refused (tag 1 1 16) (refusals.Reserved w)
    ∷ commits 17 63 (deeds.Save w 6 bar ∷ deeds.Checkin w 6 ∷ [])
    ++ (story_steps.Refused (tag 1 1 19) (refusals.NotLatest 17)
    ∷ commits 20 71 (deeds.Uncheckout v 6 ∷ deeds.Checkout v 6 17 true ∷ [])
    ++ (story_steps.Refused (tag 1 1 22) (refusals.Identical 17)
    ∷ []))))

checkouts_are_finished : all_done (state_of checkout_story) ≡ true
checkouts_are_finished = refl

checkouts_are_replied :
    replies_of checkout_story 1
    ≡ first_replies
    ++ (replies.Version (codes "/main/1")
    ∷ replies.Version (codes "/main/1")
    ∷ replies.Good
    ∷ replies.Refused (refusals.Reserved w)
    ∷ replies.Good
    ∷ replies.Version (codes "/main/2")
    ∷ replies.Refused (refusals.NotLatest 17)
    ∷ replies.Good
    ∷ replies.Version (codes "/main/2")
    ∷ replies.Refused (refusals.Identical 17)
    ∷ [])
unfolding digits
checkouts_are_replied = refl
