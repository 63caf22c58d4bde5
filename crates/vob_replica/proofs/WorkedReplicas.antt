-- Texts of sites and their replies, worked out by hand.
use Rattle.std.proofs.Common.{◌≡◌, ℕ, List, refl, Ok, Err, Result}
use Rattle.std.specs.Prelude.{codes}
use Rattle.std.specs.Fmt.{digits}
use Rattle.vob_replica.specs.declared.events.SiteError.{SiteError}
use Rattle.vob_replica.specs.declared.events.Event.{Event}
use Rattle.vob_replica.specs.declared.events.SiteCause.TheVariants as causes
use Rattle.vob_replica.specs.Reading.{events_of}
use Rattle.vob_replica.specs.World.{event_replies}

-- the replies to a text that reads
abbrev replies_in : Result (List Event) SiteError → Result (List ℕ) SiteError
replies_in (Ok events) = Ok (event_replies events)
replies_in (Err error) = Err error

-- the mastership of a branch goes from one site to another, which then makes a version; at last both know the same
handed_over : replies_in
    (events_of
    (codes "site a\nsite b\nmkelem a\nexport a b p\nimport b p\ncheckin b a:1 foo\nchmaster a a:1 b\nexport a b q\nimport b q\ncheckin b a:1 foo\nimport b p\nexport b a r\nimport a r\nshow a\nshow b\n"))
    ≡ Ok (codes "1 site ok\n2 site ok\n3 mkelem ok a:1\n4 export ok 1\n5 import ok 1\n6 checkin refused V5 NotMaster a\n7 chmaster ok a:2\n8 export ok 1\n9 import ok 1\n10 checkin ok b:1\n11 import ok 0\n12 export ok 1\n13 import ok 1\n14 show ok\n|epoch a 2\n|epoch b 1\n|branch a:1 main master b\n|version 0\n|version 1 b:1 foo\n15 show ok\n|epoch a 2\n|epoch b 1\n|branch a:1 main master b\n|version 0\n|version 1 b:1 foo\n")
unfolding digits
handed_over = refl

-- a packet is lost: the next one has a gap, until the sender forgets what it thinks that the other knows
lost_packet : replies_in
    (events_of
    (codes "site a\nsite b\nmkelem a\nexport a b p\nchmaster a a:1 b\nexport a b q\nimport b q\nrecover a b\nexport a b r\nimport b r\n"))
    ≡ Ok (codes "1 site ok\n2 site ok\n3 mkelem ok a:1\n4 export ok 1\n5 chmaster ok a:2\n6 export ok 1\n7 import refused V10 Gap a:1\n8 recover ok\n9 export ok 2\n10 import ok 2\n")
unfolding digits
lost_packet = refl

-- lines that are skipped are counted where a line says nothing
bad_line : replies_in (events_of (codes "# two sites\n\nsite a\n \t\nsite 1b\n"))
    ≡ Err (record { line = 5; cause = causes.BadWord })
bad_line = refl

unknown_word : replies_in (events_of (codes "site a\n|epoch a 2")) ≡ Err (record { line = 2; cause = causes.UnknownCommand })
unknown_word = refl
