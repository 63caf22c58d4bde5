-- Each version to which a walk leads is found: a round without followers has them all, and every other round adds a row.
use Rattle.std.proofs.Common.{◌≡◌, refl, ap, sym, subst, ◌∙◌, inl, inr, ℕ, zero, suc, ◌+◌, ◌<◌, ◌≤◌, Bool, true, false, not}
use Rattle.std.proofs.Common.{◌&&◌, ◌||◌, ◌==◌, ◌⊎◌, List, [], ◌∷◌, ◌++◌, arith}
use Rattle.std.proofs.lemmas.Bool.Decides.{nat_tests}
use Rattle.std.proofs.lemmas.List.Folds.{list_any-append}
use Rattle.std.specs.List.{list_any}
use Rattle.std.proofs.lemmas.Bool.{or_left, or_right}
use Rattle.cc_names.specs.References.{one_where}
use Rattle.cc_names.specs.Versions.{put_if}
use Rattle.cc_names.proofs.Common.{same_number}
use Rattle.base_model.specs.Rows.{Base, size}
use Rattle.base_model.specs.Fits.{is_base}
use Rattle.legal_history.specs.Queries.Merges.{Itself, Onward, Reaches, follows, followers, is_in, reaches, with_follower}
use Rattle.legal_history.specs.Queries.Merges.{reached_within}
use Rattle.base_model.proofs.Owned.{same_is_same}
use Rattle.legal_history.proofs.Queries.FollowersBelow.{follower_below}

-- what follows one of some versions is one of them
record Closed (b : Base) (versions : List ℕ) : Type 0 where
  onward : (c d : ℕ) → is_in c versions ≡ true → follows b c d ≡ true → is_in d versions ≡ true

-- how many numbers below this one are among some
abbrev having : ℕ → List ℕ → ℕ
having zero versions = 0
having (suc n) versions = one_where (is_in n versions) + having n versions

-- versions among others
record AllIn (some others : List ℕ) : Type 0 where
  among : (n : ℕ) → is_in n some ≡ true → is_in n others ≡ true

one_within : (t : Bool) → one_where t ≤ 1
one_within true = omega arith
one_within false = omega arith

having_within : (n : ℕ) (versions : List ℕ) → having n versions ≤ n
having_within zero versions = omega arith
having_within (suc n) versions = let rest = having_within n versions in let one = one_within (is_in n versions) in omega arith

lower_one : (m n : ℕ) → (m == n) ≡ false → m < suc n → m < n
lower_one m n e low = grind (arith, nat_tests)

has_all : (n : ℕ) (versions : List ℕ) → n ≤ having n versions → (m : ℕ) → m < n → is_in m versions ≡ true
has_all zero versions h m low = absurd (omega arith)
has_all (suc n) versions h m low = by (is_in n versions) (m == n) refl refl h (λ rest lower. has_all n versions rest m lower)
  where
    by : (t s : Bool) → is_in n versions ≡ t → (m == n) ≡ s → suc n ≤ one_where t + having n versions
        → (n ≤ having n versions → m < n → is_in m versions ≡ true) → is_in m versions ≡ true
    by false s e f h rest = let most = having_within n versions in absurd (omega arith)
    by true true e f h rest = let number = same_number m n f in ap (λ k. is_in k versions) number ∙ e
    by true false e f h rest = rest (omega arith) (lower_one m n f low)

-- as many or more are among more versions, and one more where a new one is
no_fewer : (s t : Bool) → (s ≡ true → t ≡ true) → one_where s ≤ one_where t
no_fewer false t h = omega arith
no_fewer true true h = omega arith
no_fewer true false h = let clash = h refl in absurd (cc)

having_more : (n : ℕ) (some others : List ℕ) → AllIn some others → having n some ≤ having n others
having_more zero some others h = omega arith
having_more (suc n) some others h = let rest = having_more n some others h in let one =
    no_fewer (is_in n some) (is_in n others) (h.among n) in omega arith

having_one_more : (n : ℕ) (some others : List ℕ) (d : ℕ) → AllIn some others → d < n → is_in d some ≡ false
    → is_in d others ≡ true → having n some + 1 ≤ having n others
having_one_more zero some others d h low before now = absurd (omega arith)
having_one_more (suc n) some others d h low before now = by (d == n) refl (having_one_more n some others d h)
  where
    rest_more : having n some ≤ having n others
    rest_more = having_more n some others h

    by : (t : Bool) → (d == n) ≡ t → (d < n → is_in d some ≡ false → is_in d others ≡ true → having n some + 1 ≤ having n others)
        → having (suc n) some + 1 ≤ having (suc n) others
    by true e rest =
        let number = same_number d n e in
        let was : one_where (is_in n some) ≡ 0 = ap (λ k. one_where (is_in k some)) (sym number) ∙ ap one_where before in
        let is : one_where (is_in n others) ≡ 1 = ap (λ k. one_where (is_in k others)) (sym number) ∙ ap one_where now in
        let more = rest_more in
        omega arith
    by false e rest =
        let more = rest (lower_one d n e low) before now in
        let one = no_fewer (is_in n some) (is_in n others) (h.among n) in
        omega arith

-- those before are among those after a round, and after all of them
later : (n : ℕ) (xs ys : List ℕ) → is_in n ys ≡ true → is_in n (xs ++ ys) ≡ true
later n xs ys h = list_any-append (λ m. m == n) xs ys ∙ or_right (is_in n xs) (is_in n ys) h

earlier : (n : ℕ) (xs ys : List ℕ) → is_in n xs ≡ true → is_in n (xs ++ ys) ≡ true
earlier n xs ys h = list_any-append (λ m. m == n) xs ys ∙ or_left (is_in n xs) (is_in n ys) h

stays_in : (rounds : ℕ) (b : Base) (versions : List ℕ) (n : ℕ) → is_in n versions ≡ true
    → is_in n (reached_within rounds b versions) ≡ true
stays_in zero b versions n h = h
stays_in (suc rounds) b versions n h = stays_in rounds b (followers b versions b ++ versions) n
    (later n (followers b versions b) versions h)

-- a version that follows one of some
some_follows : (b : Base) (versions : List ℕ) (c d : ℕ) → is_in c versions ≡ true → follows b c d ≡ true
    → list_any (λ version. follows b version d) versions ≡ true
some_follows b [] c d h f = absurd (cc)
some_follows b (version ∷ versions) c d h f = by (version == c) refl h (some_follows b versions c d)
  where
    by : (t : Bool) → (version == c) ≡ t → (t || is_in c versions) ≡ true
        → (is_in c versions ≡ true → follows b c d ≡ true → list_any (λ version. follows b version d) versions ≡ true) →
        (follows b version d || list_any (λ version. follows b version d) versions) ≡ true
    by true e h rest = or_left (follows b version d) (list_any (λ version. follows b version d) versions)
        (ap (λ k. follows b k d) (same_number version c e) ∙ f)
    by false e h rest = or_right (follows b version d) (list_any (λ version. follows b version d) versions) (rest h f)

-- a new one is among the followers
own_in : (b : Base) (versions : List ℕ) (n : ℕ) (found : List ℕ) → is_in n versions ≡ false
    → list_any (λ version. follows b version n) versions ≡ true → is_in n (with_follower b versions n found) ≡ true
own_in b versions n found new f =
    ap (λ t. is_in n (put_if (not t && list_any (λ version. follows b version n) versions) n found)) new
    ∙ ap (λ t. is_in n (put_if t n found)) f
    ∙ or_left (n == n) (is_in n found) (same_is_same n)

other_in : (b : Base) (versions : List ℕ) (n d : ℕ) (found : List ℕ) → is_in d found ≡ true
    → is_in d (with_follower b versions n found) ≡ true
other_in b versions n d found h = by (not (is_in n versions) && list_any (λ version. follows b version n) versions)
  where
    by : (t : Bool) → is_in d (put_if t n found) ≡ true
    by true = or_right (n == d) (is_in d found) h
    by false = h

new_in : (b : Base) (versions : List ℕ) (rows : Base) (d : ℕ) → d < size rows → is_in d versions ≡ false
    → list_any (λ version. follows b version d) versions ≡ true → is_in d (followers b versions rows) ≡ true
new_in b versions [] d low new f =
    let number : 0 ≡ d = omega arith in
    subst (λ k. is_in d (with_follower b versions k []) ≡ true) (sym number) (own_in b versions d [] new f)
new_in b versions (row ∷ older) d low new f = by (d == size older) refl (new_in b versions older d)
  where
    by : (t : Bool) → (d == size older) ≡ t → (d < size older → is_in d versions ≡ false
        → list_any (λ version. follows b version d) versions ≡ true → is_in d (followers b versions older) ≡ true) →
        is_in d (with_follower b versions (size older) (followers b versions older)) ≡ true
    by true e rest = subst (λ k. is_in d (with_follower b versions k (followers b versions older)) ≡ true)
        (same_number d (size older) e) (own_in b versions d (followers b versions older) new f)
    by false e rest = other_in b versions (size older) d (followers b versions older)
        (rest (lower_one d (size older) e low) new f)

-- a round adds nothing, or a row that was not there
record NewOne (b : Base) (versions found : List ℕ) (n : ℕ) : Type 0 where
  number : ℕ
  low : number < n
  new : is_in number versions ≡ false
  in_found : is_in number found ≡ true

none_or_new : (b : Base) (versions : List ℕ) (n most : ℕ) (found : List ℕ) → n < most
    → ((found ≡ []) ⊎ NewOne b versions found most) → ((with_follower b versions n found ≡ [])
    ⊎ NewOne b versions (with_follower b versions n found) most)
none_or_new b versions n most found low (inr new) = inr (record {
  number = new.number;
  low = new.low;
  new = new.new;
  in_found = other_in b versions n new.number found new.in_found;
})
none_or_new b versions n most found low (inl none) = by (is_in n versions) (list_any (λ version. follows b version n) versions)
    refl
  where
    by : (s t : Bool) → is_in n versions ≡ s → ((put_if (not s && t) n found ≡ [])
        ⊎ NewOne b versions (put_if (not s && t) n found) most)
    by true t e = inl none
    by false false e = inl none
    by false true e = inr (record {
      number = n;
      low = low;
      new = e;
      in_found = or_left (n == n) (is_in n found) (same_is_same n);
    })

walk_adds : (b : Base) (versions : List ℕ) (rows : Base) (most : ℕ) → size rows ≤ most → (followers b versions rows ≡ [])
    ⊎ NewOne b versions (followers b versions rows) most
walk_adds b versions [] most h = none_or_new b versions 0 most [] (omega arith) (inl refl)
walk_adds b versions (row ∷ older) most h = none_or_new b versions (size older) most (followers b versions older) (omega arith)
    (walk_adds b versions older most (omega arith))

-- versions that nothing more follows are closed, and stay so
closed_by_none : (b : Base) (versions : List ℕ) → is_base b ≡ true → followers b versions b ≡ [] → Closed b versions
closed_by_none b versions base none = record { onward = λ c d h f. by c d (is_in d versions) refl h f }
  where
    by : (c d : ℕ) (t : Bool) → is_in d versions ≡ t → is_in c versions ≡ true → follows b c d ≡ true → is_in d versions ≡ true
    by c d true e h f = e
    by c d false e h f =
        let found = new_in b versions b d (follower_below b c d base f) e (some_follows b versions c d h f) in
        let clash : false ≡ true = ap (is_in d) (sym none) ∙ found in
        absurd (cc)

stays_the_same : (rounds : ℕ) (b : Base) (versions : List ℕ) → followers b versions b ≡ []
    → reached_within rounds b versions ≡ versions
stays_the_same zero b versions none = refl
stays_the_same (suc rounds) b versions none = ap (λ found. reached_within rounds b (found ++ versions)) none
    ∙ stays_the_same rounds b versions none

closed_within : (rounds : ℕ) (b : Base) (versions : List ℕ) → is_base b ≡ true → size b ≤ having (size b) versions + rounds
    → Closed b (reached_within rounds b versions)
closed_within zero b versions base h = record {
  onward = λ c d is f. has_all (size b) versions (omega arith) d
      (follower_below b c d base f);
}
closed_within (suc rounds) b versions base h = by (walk_adds b versions b (size b) (omega arith))
    (λ more. closed_within rounds b (followers b versions b ++ versions) base more)
  where
    by : (followers b versions b ≡ []) ⊎ NewOne b versions (followers b versions b) (size b)
        → (size b ≤ having (size b) (followers b versions b ++ versions) + rounds
        → Closed b (reached_within rounds b (followers b versions b ++ versions))) →
        Closed b (reached_within (suc rounds) b versions)
    by (inl none) rest = subst (Closed b) (sym (stays_the_same (suc rounds) b versions none))
        (closed_by_none b versions base none)
    by (inr new) rest =
        let more = having_one_more (size b) versions (followers b versions b ++ versions) new.number
        (record { among = λ n is. later n (followers b versions b) versions is }) new.low new.new
        (earlier new.number (followers b versions b) versions new.in_found) in
        rest (omega arith)

walk_in : (b : Base) (versions : List ℕ) → Closed b versions → {a d : ℕ} → Reaches b a d → is_in a versions ≡ true
    → is_in d versions ≡ true
walk_in b versions closed Itself h = h
walk_in b versions closed (Onward {a = a} {c = c} f rest) h = walk_in b versions closed rest (closed.onward a c h f)

pub walk_is_found : (b : Base) (one two : ℕ) → is_base b ≡ true → Reaches b one two → reaches b one two ≡ true
walk_is_found b one two base walk =
    walk_in b (reached_within (size b) b (one ∷ [])) (closed_within (size b) b (one ∷ []) base (omega arith)) walk
    (stays_in (size b) b (one ∷ []) one (or_left (one == one) false (same_is_same one)))
