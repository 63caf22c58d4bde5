-- What is found to be reached is reached by a walk.
use Rattle.std.proofs.Common.{◌≡◌, refl, subst, ℕ, zero, suc, Bool, true, false, not, ◌&&◌, ◌||◌, ◌==◌, List, [], ◌∷◌, ◌++◌}
use Rattle.std.specs.Bool.{⊤}
use Rattle.std.specs.List.{list_any}
use Rattle.cc_names.specs.Versions.{put_if}
use Rattle.cc_names.proofs.Common.{same_number, and_second}
use Rattle.base_model.specs.Rows.{Base, size}
use Rattle.legal_history.specs.Queries.Merges.{Reaches, Itself, Onward, follows, followers, with_follower, is_in, reaches}
use Rattle.legal_history.specs.Queries.Merges.{reached_within}

-- a walk goes on by one version more
goes_on : (b : Base) {a c d : ℕ} → Reaches b a c → follows b c d ≡ true → Reaches b a d
goes_on b Itself e = Onward e Itself
goes_on b (Onward f rest) e = Onward f (goes_on b rest e)

-- each of some versions is reached from one
abbrev AllReached : Base → ℕ → List ℕ → Type 0
AllReached b from [] = ⊤
AllReached b from (version ∷ versions) = Reaches b from version × AllReached b from versions

both_reached : (b : Base) (from : ℕ) (one two : List ℕ) → AllReached b from one → AllReached b from two
    → AllReached b from (one ++ two)
both_reached b from [] two h g = g
both_reached b from (version ∷ one) two h g = (h.0, both_reached b from one two h.1 g)

-- what follows one of them is reached too
follower_reached : (b : Base) (from n : ℕ) (versions : List ℕ) → AllReached b from versions
    → list_any (λ version. follows b version n) versions ≡ true → Reaches b from n
follower_reached b from n [] h e = absurd (cc)
follower_reached b from n (version ∷ versions) h e = by (follows b version n) refl e (follower_reached b from n versions h.1)
  where
    by : (t : Bool) → follows b version n ≡ t → (t || list_any (λ version. follows b version n) versions) ≡ true
        → (list_any (λ version. follows b version n) versions ≡ true → Reaches b from n) → Reaches b from n
    by true is e rest = goes_on b h.0 is
    by false is e rest = rest e

with_follower_reached : (b : Base) (from : ℕ) (versions : List ℕ) (n : ℕ) (found : List ℕ) → AllReached b from versions
    → AllReached b from found → AllReached b from (with_follower b versions n found)
with_follower_reached b from versions n found h g = by (not (is_in n versions)
    && list_any (λ version. follows b version n) versions) refl
  where
    by : (t : Bool) → (not (is_in n versions) && list_any (λ version. follows b version n) versions) ≡ t
        → AllReached b from (put_if t n found)
    by true e = (
      follower_reached b from n versions h (and_second (not (is_in n versions))
          (list_any (λ version. follows b version n) versions) e),
      g,
    )
    by false e = g

followers_reached : (b : Base) (from : ℕ) (versions : List ℕ) (rows : Base) → AllReached b from versions
    → AllReached b from (followers b versions rows)
followers_reached b from versions [] h = with_follower_reached b from versions 0 [] h tt
followers_reached b from versions (row ∷ older) h = with_follower_reached b from versions (size older)
    (followers b versions older) h (followers_reached b from versions older h)

within_reached : (rounds : ℕ) (b : Base) (from : ℕ) (versions : List ℕ) → AllReached b from versions
    → AllReached b from (reached_within rounds b versions)
within_reached zero b from versions h = h
within_reached (suc rounds) b from versions h = within_reached rounds b from (followers b versions b ++ versions)
    (both_reached b from (followers b versions b) versions (followers_reached b from versions b h) h)

in_reached : (b : Base) (from n : ℕ) (versions : List ℕ) → AllReached b from versions → is_in n versions ≡ true → Reaches b from n
in_reached b from n [] h e = absurd (cc)
in_reached b from n (version ∷ versions) h e = by (version == n) refl e (in_reached b from n versions h.1)
  where
    by : (t : Bool) → (version == n) ≡ t → (t || is_in n versions) ≡ true → (is_in n versions ≡ true → Reaches b from n)
        → Reaches b from n
    by true is e rest = subst (Reaches b from) (same_number version n is) h.0
    by false is e rest = rest e

pub reached_by_walk : (b : Base) (one two : ℕ) → reaches b one two ≡ true → Reaches b one two
reached_by_walk b one two h = in_reached b one two (reached_within (size b) b (one ∷ []))
    (within_reached (size b) b one (one ∷ []) (Itself, tt)) h
