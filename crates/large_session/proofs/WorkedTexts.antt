-- Whole summaries, worked out by hand from transcripts: the five lines. The digests are those that `sha256sum` prints of the
-- lines of units, where `kept`, `winked` and `built` are written `made`.
use Rattle.std.proofs.Common.{◌≡◌, ℕ, List, [], ◌++◌, refl}
use Rattle.std.specs.Prelude.{codes}
use Rattle.std.specs.Fmt.{digits}
use Rattle.hex.specs.Hex.{encode_with}
use Rattle.sha2.specs.Sha256.{sha256, digest_bytes, hash_after, compress, rounds, schedule, first_words}
use Rattle.large_session.specs.Summaries.{summary, total}

-- a session of nothing, whose digest is that of the empty text
no_commands : summary []
    ≡ codes "commands 0\nrefused 0\nunits 0\nbytes 0\ndigest e3b0c44298fc1c149afbf4c8996fb92427ae41e4649b934ca495991b7852b855\n"
unfolding digits encode_with sha256 digest_bytes hash_after compress rounds schedule first_words
no_commands = refl

-- commands without a build: one is made, one is refused, and a text is answered
no_units : summary (codes "phase 1\nlane a\n1 mkview ok\n2 mkview refused C2 ViewExists\n3 catcs ok\n|  in built 7 00\n")
    ≡ codes "commands 3\nrefused 1\nunits 0\nbytes 0\ndigest e3b0c44298fc1c149afbf4c8996fb92427ae41e4649b934ca495991b7852b855\n"
unfolding digits encode_with sha256 digest_bytes hash_after compress rounds schedule first_words
no_units = refl

-- one object is built by one lane and winked in by the other, and a unit without a script has no length
builds : List ℕ
builds =
    codes "phase 1\nlane a\n1 clearmake ok\n  out built 3 98ea\n  all made\n"
    ++ codes "lane b\n1 clearmake ok\n  out winked 3 98ea\n  all made\n"

units : summary builds
    ≡ codes "commands 2\nrefused 0\nunits 4\nbytes 6\ndigest ec01c9a75b500f68f760fd4afee282b283e85229f83b9b3991d21f5b1f3fd952\n"
unfolding builds digits encode_with sha256 digest_bytes hash_after compress rounds schedule first_words
units = refl

-- a line of the summary is a word, a number and a newline
a_line : total (codes "units ") 16 ≡ codes "units 16\n"
unfolding digits
a_line = refl
