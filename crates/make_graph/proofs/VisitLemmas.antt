-- Steps of a walk that keeps its own stack.
use Rattle.std.proofs.Common.{◌≡◌, refl, sym, ap, ◌∙◌, subst, ℕ, zero, suc, ◌+◌, ◌-◌, ◌<◌, ◌≤◌, Option, Some, None, Result, Ok}
use Rattle.std.proofs.Common.{Err, List, [], ◌∷◌, ◌++◌, length, drop, set, slice_get, arith, add-zero}
use Rattle.cc_names.proofs.Common.{drop_past}
use Rattle.make_grammar.specs.Walks.{Walk, number_of, prerequisites_at, with_open_unit, with_done_unit, walk_then, each_of}
use Rattle.make_grammar.specs.Walks.{take_path}
use Rattle.make_grammar.specs.Rules.{Serving}
use Rattle.make_grammar.specs.declared.walks.Mark.{Mark}
use Rattle.make_grammar.specs.declared.walks.Mark.TheVariants.{New, Open, Done}
use Rattle.make_graph.specs.Visits.{meeting_at, meeting, visit_of_unit, past_next, next_of, finish, resume, new_one, news}
use Rattle.make_graph.specs.declared.walks.Visit.{Visit}
use Rattle.make_graph.specs.declared.walks.Meeting.{Meeting}
use Rattle.make_graph.specs.declared.walks.Meeting.TheVariants.{Past, Again, Enter}

-- ---- lists

pub set_out : {A : Type 0} (xs : List A) (n : ℕ) (x : A) → length xs ≤ n → set xs n x ≡ xs
set_out [] n x h = refl
set_out (y ∷ xs) zero x h = absurd (omega (arith, h))
set_out (y ∷ xs) (suc n) x h = ap (λ l. y ∷ l) (set_out xs n x (omega (arith, h)))

pub drop_some : {A : Type 0} (xs : List A) (n : ℕ) (x : A) → slice_get xs n ≡ Some x → drop n xs ≡ x ∷ drop (suc n) xs
drop_some [] n x h = absurd (cc)
drop_some (y ∷ xs) zero x h = cc
drop_some (y ∷ xs) (suc n) x h = drop_some xs n x h

-- ---- new units

pub news_opened : (marks : List Mark) (n : ℕ) → slice_get marks n ≡ Some New → 1 + news (set marks n Open) ≡ news marks
news_opened [] n h = absurd (cc)
news_opened (mark ∷ marks) zero h = let is : mark ≡ New = cc in subst (λ (m : Mark). 1 + (0 + news marks)
    ≡ new_one m + news marks) (sym is) (omega arith)
news_opened (mark ∷ marks) (suc n) h = let rest = news_opened marks n h in omega (arith, rest)

pub news_closed : (marks : List Mark) (n : ℕ) → news (set marks n Done) ≤ news marks
news_closed [] n = omega arith
news_closed (mark ∷ marks) zero = omega arith
news_closed (mark ∷ marks) (suc n) = let rest = news_closed marks n in omega (arith, rest)

pub news_few : (marks : List Mark) → news marks ≤ length marks
news_few [] = omega arith
news_few (New ∷ marks) = let rest = news_few marks in omega (arith, rest)
news_few (Open ∷ marks) = let rest = news_few marks in omega (arith, rest)
news_few (Done ∷ marks) = let rest = news_few marks in omega (arith, rest)

-- ---- a path is taken

pub entered_new : (marks : List Mark) (o : Option ℕ) (n : ℕ) → meeting marks o ≡ Enter n → (o ≡ Some n)
    × (slice_get marks n ≡ Some New)
entered_new marks None n h = absurd (cc)
entered_new marks (Some m) n h = by (slice_get marks m) refl h
  where
    by : (o : Option Mark) → slice_get marks m ≡ o → meeting_at m o ≡ Enter n → (Some m ≡ Some n) × (slice_get marks n ≡ Some New)
    by None is h = absurd (cc)
    by (Some New) is h = let same : m ≡ n = cc in (ap Some same, subst (λ (i : ℕ). slice_get marks i ≡ Some New) same is)
    by (Some Open) is h = absurd (cc)
    by (Some Done) is h = absurd (cc)

-- what taking a path comes to, by what the walk does about it
abbrev pub came : ℕ → List Serving → List ℕ → Walk → Meeting → Result Walk (List ℕ)
came depth units path walk Past = Ok walk
came depth units path walk Again = Err path
came depth units path walk (Enter n) = walk_then (each_of (take_path depth units) (prerequisites_at (slice_get units n))
    (with_open_unit n walk)) (λ later. Ok (with_done_unit n later))

pub taken_as : (depth : ℕ) (units : List Serving) (path : List ℕ) (walk : Walk)
    → take_path (suc depth) units path walk ≡ came depth units path walk (meeting walk.marks (number_of units path))
taken_as depth units path walk = by_number (number_of units path)
  where
    by_mark : (n : ℕ) (m : Option Mark) → elim m as (λ x. Result Walk (List ℕ)) [
      | None ↦ Ok walk
      | Some New ↦ walk_then (each_of (take_path depth units) (prerequisites_at (slice_get units n)) (with_open_unit n walk))
          (λ later. Ok (with_done_unit n later))
      | Some Open ↦ Err path
      | Some Done ↦ Ok walk
    ] ≡ came depth units path walk (meeting_at n m)
    by_mark n None = refl
    by_mark n (Some New) = refl
    by_mark n (Some Open) = refl
    by_mark n (Some Done) = refl

    by_number : (o : Option ℕ) → elim o as (λ x. Result Walk (List ℕ)) [
      | None ↦ Ok walk
      | Some n ↦ elim (slice_get walk.marks n) as (λ x. Result Walk (List ℕ)) [
        | None ↦ Ok walk
        | Some New ↦ walk_then (each_of (take_path depth units) (prerequisites_at (slice_get units n)) (with_open_unit n walk))
            (λ later. Ok (with_done_unit n later))
        | Some Open ↦ Err path
        | Some Done ↦ Ok walk
      ]
    ] ≡ came depth units path walk (meeting walk.marks o)
    by_number None = refl
    by_number (Some n) = by_mark n (slice_get walk.marks n)

-- ---- one step at the top of the stack

lift : (units : List Serving) (below : ℕ) (stack tops others : List Visit) (w v : Walk)
    → resume units (below + length stack) tops w ≡ resume units (below + length stack) others v →
    resume units below (stack ++ tops) w ≡ resume units below (stack ++ others) v
lift units below [] tops others w v h =
    let e : below + 0 ≡ below = add-zero below in
    ap (λ n. resume units n tops w) (sym e) ∙ (h ∙ ap (λ n. resume units n others v) e)
lift units below (visit ∷ stack) tops others w v h =
    let e : suc below + length stack ≡ below + suc (length stack) = omega arith in
    ap (λ r. walk_then r (finish units below visit)) (lift units (suc below) stack tops others w v
    (subst (λ (n : ℕ). resume units n tops w ≡ resume units n others v) (sym e) h))

lift_met : (units : List Serving) (below : ℕ) (stack tops : List Visit) (w : Walk) (path : List ℕ)
    → resume units (below + length stack) tops w ≡ Err path → resume units below (stack ++ tops) w ≡ Err path
lift_met units below [] tops w path h = ap (λ n. resume units n tops w) (sym (add-zero below)) ∙ h
lift_met units below (visit ∷ stack) tops w path h =
    let e : suc below + length stack ≡ below + suc (length stack) = omega arith in
    ap (λ r. walk_then r (finish units below visit)) (lift_met units (suc below) stack tops w path
    (subst (λ (n : ℕ). resume units n tops w ≡ Err path) (sym e) h))

then_then : (r : Result Walk (List ℕ)) (f g : Walk → Result Walk (List ℕ))
    → walk_then (walk_then r f) g ≡ walk_then r (λ w. walk_then (f w) g)
then_then (Ok w) f g = refl
then_then (Err path) f g = refl

append_nil : {A : Type 0} (xs : List A) → xs ++ [] ≡ xs
append_nil [] = refl
append_nil (x ∷ xs) = ap (λ l. x ∷ l) (append_nil xs)

-- a unit without further prerequisites is closed
pub step_close : (units : List Serving) (stack : List Visit) (top : Visit) (w : Walk) → next_of top ≡ None
    → resume units 0 (stack ++ top ∷ []) w ≡ resume units 0 stack (with_done_unit top.unit w)
step_close units stack top w none =
    let rest = drop_past top.paths top.next none in
    let depth = length units - (0 + length stack) in
    let here : resume units (0 + length stack) (top ∷ []) w ≡ resume units (0 + length stack) [] (with_done_unit top.unit w) =
    ap (λ paths. walk_then (each_of (take_path depth units) paths w) (λ later. Ok (with_done_unit top.unit later))) rest in
    lift units 0 stack (top ∷ []) [] w (with_done_unit top.unit w) here
    ∙ ap (λ l. resume units 0 l (with_done_unit top.unit w)) (append_nil stack)

-- what the top of the stack comes to, by what the walk does about its next prerequisite
at_top : (units : List Serving) (below depth : ℕ) (top : Visit) (path : List ℕ) (w : Walk) → length units - below ≡ suc depth
    → next_of top ≡ Some path →
    resume units below (top ∷ []) w ≡ walk_then (came depth units path w (meeting w.marks (number_of units path)))
    (λ v. resume units below (past_next top ∷ []) v)
at_top units below depth top path w deep is =
    let paths = top.paths in
    let more : suc top.next ≡ top.next + 1 = omega arith in
    let rest : drop top.next paths ≡ path ∷ drop (top.next + 1) paths = drop_some paths top.next path is
    ∙ ap (λ n. path ∷ drop n paths) more in
    let step = each_of (take_path (length units - below) units) in
    let close : Walk → Result Walk (List ℕ) = λ later. Ok (with_done_unit top.unit later) in
    let first = ap (λ ps. walk_then (step ps w) close) rest in
    let split = then_then (take_path (length units - below) units path w) (step (drop (top.next + 1) paths)) close in
    let taken : take_path (length units - below) units path w ≡ came depth units path w (meeting w.marks (number_of units path)) =
    ap (λ d. take_path d units path w) deep ∙ taken_as depth units path w in
    first ∙ (split ∙ ap (λ r. walk_then r (λ v. walk_then (step (drop (top.next + 1) paths) v) close)) taken)

depth_at : (units : List Serving) (n : ℕ) → n < length units → length units - n ≡ suc (length units - suc n)
depth_at units n h = omega (arith, h)

pub step_past : (units : List Serving) (stack : List Visit) (top : Visit) (path : List ℕ) (w : Walk) → length stack < length units
    → next_of top ≡ Some path → meeting w.marks (number_of units path) ≡ Past →
    resume units 0 (stack ++ top ∷ []) w ≡ resume units 0 (stack ++ past_next top ∷ []) w
step_past units stack top path w room is past =
    let below = 0 + length stack in
    let lt : below < length units = omega (arith, room) in
    lift units 0 stack (top ∷ []) (past_next top ∷ []) w w
    (at_top units below (length units - suc below) top path w (depth_at units below lt) is
    ∙ ap (λ m. walk_then (came (length units - suc below) units path w m) (λ v. resume units below (past_next top ∷ []) v)) past)

pub step_again : (units : List Serving) (stack : List Visit) (top : Visit) (path : List ℕ) (w : Walk)
    → length stack < length units → next_of top ≡ Some path → meeting w.marks (number_of units path) ≡ Again →
    resume units 0 (stack ++ top ∷ []) w ≡ Err path
step_again units stack top path w room is again =
    let below = 0 + length stack in
    let lt : below < length units = omega (arith, room) in
    lift_met units 0 stack (top ∷ []) w path
    (at_top units below (length units - suc below) top path w (depth_at units below lt) is
    ∙ ap (λ m. walk_then (came (length units - suc below) units path w m) (λ v. resume units below (past_next top ∷ []) v)) again)

pub step_enter : (units : List Serving) (stack : List Visit) (top : Visit) (path : List ℕ) (w : Walk) (n : ℕ)
    → length stack < length units → next_of top ≡ Some path → meeting w.marks (number_of units path) ≡ Enter n →
    resume units 0 (stack ++ top ∷ []) w ≡ resume units 0 (stack ++ past_next top ∷ visit_of_unit units n ∷ [])
    (with_open_unit n w)
step_enter units stack top path w n room is enter =
    let below = 0 + length stack in
    let lt : below < length units = omega (arith, room) in
    lift units 0 stack (top ∷ []) (past_next top ∷ visit_of_unit units n ∷ []) w (with_open_unit n w)
    (at_top units below (length units - suc below) top path w (depth_at units below lt) is
    ∙ ap (λ m. walk_then (came (length units - suc below) units path w m) (λ v. resume units below (past_next top ∷ []) v)) enter)

-- a new unit is the first on the stack
pub enter_first : (units : List Serving) (path : List ℕ) (w : Walk) (n : ℕ) → meeting w.marks (number_of units path) ≡ Enter n →
    take_path (suc (length units)) units path w ≡ resume units 0 (visit_of_unit units n ∷ []) (with_open_unit n w)
enter_first units path w n enter =
    let none : length units ≡ length units - 0 = omega arith in
    taken_as (length units) units path w
    ∙ (ap (came (length units) units path w) enter
    ∙ ap (λ d. walk_then (each_of (take_path d units) (prerequisites_at (slice_get units n)) (with_open_unit n w))
    (λ later. Ok (with_done_unit n later))) none)
