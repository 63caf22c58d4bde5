-- The replies of a history are those of builds from nothing, by the laws of its builds.
use Rattle.std.proofs.Common.{◌≡◌, ℕ, Bool, true, false, Option, Some, None, List, [], ◌∷◌, ◌++◌, refl, ap, ap₂, sym, subst, ◌∙◌}
use Rattle.std.proofs.Common.{append_assoc}
use Rattle.std.specs.Prelude.{◌||◌, if◌then◌else◌, option_and_then}
use Rattle.cc_names.specs.declared.replies.Reply.{Reply}
use Rattle.cc_names.specs.declared.replies.Reply.TheVariants as replies
use Rattle.cc_names.specs.declared.rows.Tag.{Tag}
use Rattle.cc_names.specs.declared.steps.StoryStep.{StoryStep}
use Rattle.cc_names.specs.declared.steps.StoryStep.TheVariants as story_steps
use Rattle.story_log.proofs.Story.Growing.{state_from-more}
use Rattle.legal_history.proofs.Stories.Prefixes.{rest_is_legal}
use Rattle.base_core.specs.Story.Replying.{in_lane, reply_to_end, no_replies, replies_after}
use Rattle.legal_history.specs.Builds.Replied.{reply_of, reply_from_nothing}
use Rattle.base_model.specs.Rows.{only_where}
use Rattle.legal_history.specs.Builds.Active.{Build, build_of}
use Rattle.legal_history.specs.Stories.States.{State, start, same_tag, build_if, build_by}
use Rattle.legal_history.specs.Stories.Steps.{after, state_of}
use Rattle.legal_history.specs.Stories.Lawful.{Lawful, LegalFrom, Legal, EndsBuild}
use Rattle.legal_history.specs.Builds.Turns.{is_complete}
use Rattle.legal_history.proofs.Stories.Goes.{of_lane}
use Rattle.legal_history.proofs.Builds.RepliesAgree.{left_complete}
use Rattle.session_run.specs.Promises.Headline.{AreFromNothing}
use Rattle.session_run.specs.Story.FromNothing.{end_from_nothing, lane_replies_after, text_from_nothing}
use Rattle.session_run.specs.Story.Rendered.{Replies, closed_by, closed_over, replies_over, last_ended_phase, text_of_story}
use Rattle.session_run.specs.Story.Rendered.{transcripts}

-- the law of builds, at each prefix of a history
pub record Law (story : List StoryStep) : Type 0 where
  pub complete : (prefix rest : List StoryStep) (lane : ℕ) (build : Build) → story ≡ prefix ++ rest
      → build_of (state_of prefix).active lane ≡ Some build → is_complete build ≡ true
      → reply_of (state_of prefix).base build ≡ reply_from_nothing (state_of prefix).base build

-- the build of a command is the active one of its lane
where_same : (is : Bool) (kept build : Build) → only_where is (Some kept) ≡ Some build → Some kept ≡ Some build
where_same true kept build e = e
where_same false kept build e = absurd (cc)

found_by : (found : Option Build) (tag : Tag) (build : Build) → option_and_then (build_if tag) found ≡ Some build
    → found ≡ Some build
found_by None tag build e = absurd (cc)
found_by (Some kept) tag build e = where_same (same_tag kept.tag tag) kept build e

chosen_same : (faulted : Bool) (fault one two : Reply) → (faulted ≡ false → one ≡ two)
    → (if faulted then fault else one) ≡ (if faulted then fault else two)
chosen_same true fault one two h = refl
chosen_same false fault one two h = h refl

-- a step after which both folds reply the same
SameEnd : State → StoryStep → Type 0
SameEnd s (story_steps.End tag) = reply_to_end s.base (build_by s tag) ≡ end_from_nothing s.base (build_by s tag)
SameEnd s x = Unit {0}

same_end : (story prefix rest : List StoryStep) (x : StoryStep) → Law story → story ≡ prefix ++ rest → Lawful (state_of prefix) x
    → SameEnd (state_of prefix) x
unfolding SameEnd
same_end story prefix rest (story_steps.End tag) law grows ends =
    let s = state_of prefix in
    let build = ends.build in
    let complete : build.faulted ≡ false → reply_of s.base build ≡ reply_from_nothing s.base build =
    λ sound. law.complete prefix rest tag.lane build grows (of_lane s tag build ends.active)
    (left_complete (is_complete build) build.faulted ends.over sound) in
    ap (reply_to_end s.base) ends.active
    ∙ ap Some (chosen_same build.faulted replies.DiskFault (reply_of s.base build) (reply_from_nothing s.base build) complete)
    ∙ ap (end_from_nothing s.base) (sym ends.active)
same_end story prefix rest x law grows lawful = tt

step_same : (s : State) (replies : Replies) (x : StoryStep) → SameEnd s x
    → replies_after s x replies ≡ lane_replies_after s x replies
unfolding SameEnd
step_same s replies (story_steps.End tag) h = ap (λ reply lane. replies lane ++ in_lane lane tag reply) h
step_same s replies x h = refl

AllSame : State → List StoryStep → Type 0
AllSame s [] = Unit {0}
AllSame s (x ∷ story) = SameEnd s x × AllSame (after s x) story

all_same : (story prefix rest : List StoryStep) → Law story → story ≡ prefix ++ rest → LegalFrom (state_of prefix) rest
    → AllSame (state_of prefix) rest
unfolding AllSame
all_same story prefix [] law grows lawful = tt
all_same story prefix (x ∷ rest) law grows lawful =
    let more : state_of (prefix ++ x ∷ []) ≡ after (state_of prefix) x = state_from-more start prefix x in (
      same_end story prefix (x ∷ rest) x law grows lawful.0,
      subst (λ s. AllSame s rest) more
          (all_same story (prefix ++ x ∷ []) rest law (grows ∙ sym (append_assoc prefix (x ∷ []) rest))
          (subst (λ s. LegalFrom s rest) (sym more) lawful.1)),
    )

closed_same : (s : State) (replies : Replies) (story : List StoryStep) → AllSame s story
    → closed_over replies_after s replies story ≡ closed_over lane_replies_after s replies story
unfolding AllSame
closed_same s replies [] h = refl
closed_same s replies (x ∷ story) h =
    ap (λ phases. closed_by s replies x ++ phases)
    (ap (λ r. closed_over replies_after (after s x) r story) (step_same s replies x h.0)
    ∙ closed_same (after s x) (lane_replies_after s x replies) story h.1)

over_same : (s : State) (replies : Replies) (story : List StoryStep) → AllSame s story
    → replies_over replies_after s replies story ≡ replies_over lane_replies_after s replies story
unfolding AllSame
over_same s replies [] h = refl
over_same s replies (x ∷ story) h =
    ap (λ r. replies_over replies_after (after s x) r story) (step_same s replies x h.0)
    ∙ over_same (after s x) (lane_replies_after s x replies) story h.1

-- Along a legal story the text by the units' own outcomes is the one that building from nothing tells.
same_text : (story : List StoryStep) → Law story → Legal story → text_of_story story ≡ text_from_nothing story
same_text story law legal =
    let same = all_same story [] story law refl legal in
    ap transcripts (ap₂ (λ prefix replies. prefix ++ last_ended_phase (state_of story) replies)
    (closed_same start no_replies story same) (over_same start no_replies story same))

some_same : (one two : Build) → Some one ≡ Some two → one ≡ two
some_same one two e = ap (λ o. elim o [ None ↦ one | Some build ↦ build ]) e

-- a build that ends is over
pub ends_over : (s : State) (tag : Tag) (build : Build) → EndsBuild s tag → build_by s tag ≡ Some build
    → (is_complete build || build.faulted) ≡ true
ends_over s tag build ends is = subst (λ b. (is_complete b || b.faulted) ≡ true) (some_same ends.build build (sym ends.active
    ∙ is)) ends.over

pub are_from_nothing : (story : List StoryStep) → Law story → Legal story → AreFromNothing story
are_from_nothing story law legal = record {
  text = same_text story law legal;
  each = λ prefix rest tag build grows is sound.
      let ends : EndsBuild (state_of prefix) tag = (rest_is_legal start prefix (story_steps.End tag ∷ rest)
      (subst Legal grows legal)).0 in
      law.complete prefix (story_steps.End tag ∷ rest) tag.lane build grows
      (of_lane (state_of prefix) tag build is)
      (left_complete (is_complete build) build.faulted (ends_over (state_of prefix) tag build ends is) sound);
}
