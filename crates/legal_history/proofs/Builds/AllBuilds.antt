-- What holds of every active build holds of every one after a change of them.
use Rattle.std.proofs.Common.{◌≡◌, refl, sym, subst, ◌∙◌, ℕ, Bool, true, false, cond, not, ◌==◌, Option, Some, None, [], ◌∷◌}
use Rattle.std.specs.Prelude.{bytes_eq, find, option_map}
use Rattle.std.specs.Ordering.{nat_cmp, eq_by_cmp}
use Rattle.std.specs.FinMap.Entries.{put}
use Rattle.cc_names.proofs.Common.{bytes_equal_themselves, same_number}
use Rattle.legal_history.specs.Builds.Active.{Active, Build, Came, build_of, building, is_of_view, build_tag}
use Rattle.legal_history.specs.Stories.Steps.{with_outcome, noted_in, with_came, with_build, without_build, faulted_in}
use Rattle.base_model.proofs.Tables.{find_after_put, find_without}

-- each active build is so, in its lane
pub record Each (P : ℕ → Build → Type 0) (active : Active) : Type 0 where
  pub holds : (lane : ℕ) (build : Build) → build_of active lane ≡ Some build → P lane build

pub each_as : (P Q : ℕ → Build → Type 0) (active : Active) → Each P active
    → ((lane : ℕ) (build : Build) → build_of active lane ≡ Some build → P lane build → Q lane build) → Each Q active
each_as P Q active h as_other = record { holds = λ lane build is. as_other lane build is (h.holds lane build is) }

pub each_put : (P : ℕ → Build → Type 0) (active : Active) (lane : ℕ) (new : Build) → Each P active → P lane new
    → Each P (put nat_cmp lane new active)
each_put P active lane new h own = record {
  holds = λ other build is. by other build (other == lane) refl
      (sym (find_after_put other lane new active) ∙ is);
}
  where
    by : (other : ℕ) (build : Build) (t : Bool) → (other == lane) ≡ t → cond t (Some new) (build_of active other) ≡ Some build
        → P other build
    by other build true here is =
        let same : new ≡ build = cc in
        subst (λ k. P k build) (sym (same_number other lane here)) (subst (P lane) same own)
    by other build false here is = h.holds other build is

-- without that of one lane
pub each_without : (P Q : ℕ → Build → Type 0) (active : Active) (lane : ℕ) → Each P active
    → ((other : ℕ) (build : Build) → (other == lane) ≡ false → P other build → Q other build) →
    Each Q (without_build active lane)
each_without P Q active lane h as_other = record {
  holds = λ other build is. by other build (other == lane) refl
      (sym (find_without other lane active) ∙ is);
}
  where
    by : (other : ℕ) (build : Build) (t : Bool) → (other == lane) ≡ t → cond (not t) (build_of active other) None ≡ Some build
        → Q other build
    by other build false here is = as_other other build here (h.holds other build is)
    by other build true here is = absurd (cc)

pub each_noted : (P : ℕ → Build → Type 0) (active : Active) (lane : ℕ) (unit : Build → Option ℕ) (came : Came) → Each P active →
    ((build : Build) → build_of active lane ≡ Some build → P lane (with_came build (unit build) came))
    → Each P (with_outcome active lane unit came)
each_noted P active lane unit came h own = by (build_of active lane) own
  where
    by : (o : Option Build) → ((build : Build) → o ≡ Some build → P lane (with_came build (unit build) came))
        → Each P (noted_in active lane o unit came)
    by None own = h
    by (Some build) own = each_put P active lane (with_came build (unit build) came) h (own build refl)

pub each_begun : (P : ℕ → Build → Type 0) (active : Active) (lane : ℕ) (o : Option Build) → Each P active
    → ((build : Build) → o ≡ Some build → P lane build) → Each P (with_build active lane o)
each_begun P active lane None h own = h
each_begun P active lane (Some build) h own = each_put P active lane build h (own build refl)

pub each_faulted : (P : ℕ → Build → Type 0) (active : Active) (lane : ℕ) (o : Option Build) → Each P active
    → ((build : Build) → o ≡ Some build → P lane (record build { faulted = true })) →
    Each P (faulted_in active lane o)
each_faulted P active lane None h own = h
each_faulted P active lane (Some build) h own = each_put P active lane (record build { faulted = true }) h (own build refl)

-- a view in which a build is active is one in which something builds
pub builds_there : (active : Active) (lane : ℕ) (build : Build) → build_of active lane ≡ Some build
    → building active build.view ≡ None → ⊥
builds_there [] lane build is none = cc
builds_there (entry ∷ active) lane build is none = by (eq_by_cmp nat_cmp lane entry.0) (is_of_view build.view entry) refl is none
    (builds_there active lane build)
  where
    by : (s t : Bool) → is_of_view build.view entry ≡ t → cond s (Some entry.1) (build_of active lane) ≡ Some build
        → option_map build_tag (cond t (Some entry) (find (is_of_view build.view) active)) ≡ None →
        (build_of active lane ≡ Some build → building active build.view ≡ None → ⊥) → ⊥
    by s true view is none rest = let one : Some (build_tag entry) ≡ None = none in cc
    by true false view is none rest =
        let same : entry.1 ≡ build = cc in
        let own : bytes_eq entry.1.view build.view ≡ true = subst (λ (b : Build). bytes_eq entry.1.view b.view ≡ true) same
        (bytes_equal_themselves entry.1.view) in
        cc
    by false false view is none rest = rest is none
