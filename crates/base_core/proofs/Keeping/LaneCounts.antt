-- How many commands the lanes have finished, and the reply to one more.
use Rattle.std.proofs.Common.{◌≡◌, ◌≢◌, ℕ, ◌+◌, ◌==◌, true, false, cond, Some, List, [], ◌∷◌, refl, ap, ◌∙◌}
use Rattle.std.proofs.Common.{arith}
use Rattle.std.specs.Ordering.{nat_cmp, eq_by_cmp}
use Rattle.std.specs.FinMap.Entries.{find, find-put}
use Rattle.std.specs.Prelude.{unwrap_or}
use Rattle.std.proofs.lemmas.Cmp.{nat_cmp_total}
use Rattle.std.proofs.lemmas.Bool.Decides.{nat_tests}
use Rattle.cc_names.specs.declared.replies.Reply.{Reply}
use Rattle.cc_names.specs.declared.rows.Tag.{Tag}
use Rattle.legal_history.specs.Stories.States.{done_of, with_done}
use Rattle.base_core.specs.Story.Replying.{in_lane}

-- the other lanes have finished what they had
pub done_other : (done : List (ℕ × ℕ)) (lane other : ℕ) → other ≢ lane → done_of (with_done done lane) other ≡ done_of done other
done_other done lane other differs =
    let apart : eq_by_cmp nat_cmp other lane ≡ false = grind (arith, nat_tests) in
    ap (λ found. unwrap_or found 0) (find-put nat_cmp nat_cmp_total other lane (done_of done lane + 1) done
    ∙ ap (λ is. cond is (Some (done_of done lane + 1)) (find nat_cmp other done)) apart)

-- the lane of a tag has the reply, and no other lane has it
pub in_same : (tag : Tag) (lane : ℕ) (reply : Reply) → tag.lane ≡ lane → in_lane lane tag (Some reply) ≡ reply ∷ []
in_same tag lane reply e =
    let same : (tag.lane == lane) ≡ true = grind (arith, nat_tests) in
    rw (same, in_lane) refl

pub in_other : (tag : Tag) (lane other : ℕ) (reply : Reply) → tag.lane ≡ lane → other ≢ lane → in_lane other tag (Some reply) ≡ []
in_other tag lane other reply e differs =
    let apart : (tag.lane == other) ≡ false = grind (arith, nat_tests) in
    rw (apart, in_lane) refl
