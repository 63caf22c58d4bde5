-- How parts of a run that were carried out follow each other.
use Rattle.std.proofs.Common.{◌≡◌, ℕ, Option, Some, None, Result, Ok, Err, List, refl, ap, sym, ◌∙◌}
use Rattle.std.proofs.Common.{◌≤◌, subst, arith}
use Rattle.cc_names.specs.Counts.{Rose}
use Rattle.cc_names.specs.Files.{Files}
use Rattle.cc_names.specs.declared.refusals.ScriptFault.{ScriptFault}
use Rattle.script_grammar.specs.Run.{Asking, Done, Asks, Traced, trace_of, with_read, and_then, unless_fault, see}
use Rattle.script_grammar.specs.Parts.{Halted, PartWent, Performed, PartGave, gives}
use Rattle.script_grammar.specs.Standings.{Standing, Stays, AreAmong, IsAmong, texts}
use Rattle.script_grammar.specs.declared.files.GivenUp.TheVariants.{Broken}
use Rattle.script_grammar.specs.declared.halts.Halt.{Halt}
use Rattle.script_grammar.specs.declared.halts.Halt.TheVariants.{Fault, GivenUp, NoMemory}
use Rattle.script_grammar.proofs.FrameLemmas.{before_noted, before_traced}

-- one after the other is traced one after the other
pub trace_of-and_then : {A B : Type 0} (files : Files) (reads : List (List ℕ)) (first : Asking A) (next : A → Asking B) →
    trace_of files reads (and_then first next) ≡ trace_of files (trace_of files reads first).reads
    (next (trace_of files reads first).value)
trace_of-and_then files reads (Done a) next = refl
trace_of-and_then files reads (Asks path more) next = trace_of-and_then files (with_read reads path) (more (files path)) next

-- answers that were `Broken` after a count were so after a lower one
broken_from : (lower old new : ℕ) → lower ≤ old → Rose old new → Rose lower new
broken_from lower old new h rose = λ below. omega (arith, h, rose below)

-- A whole that is traced as its rest is from the middle on, and a count that was no higher before it than before the rest.
module _ {A : Type 0} (files : Files) (before middle after : List (List ℕ)) (whole rest : Asking (Result A ScriptFault))
    (lower old new : ℕ) where
  -- what ended early in the rest did so in the whole
  halted_along : (halt : Halt) → trace_of files before whole ≡ trace_of files middle rest → lower ≤ old
      → Halted files middle rest halt after old new → Halted files before whole halt after lower new
  halted_along (Fault fault) e low h = e ∙ h
  halted_along (GivenUp Broken) e low h = broken_from lower old new low h
  halted_along NoMemory e low h = tt

  went_along : {X : Type 0} (next : X → Asking (Result A ScriptFault)) (result : Result X Halt)
      → trace_of files before whole ≡ trace_of files middle rest → lower ≤ old
      → PartWent files middle rest next result after old new → PartWent files before whole next result after lower new
  went_along next (Ok x) e low h = e ∙ h
  went_along next (Err halt) e low h = halted_along halt e low h

-- the reads of a first part are among those of the whole
first_among : {A B : Type 0} (files : Files) (before paths : List (List ℕ)) (first : Asking A) (next : A → Asking B) →
    AreAmong (trace_of files before (and_then first next)).reads paths → AreAmong (trace_of files before first).reads paths
first_among {B = B} files before paths first next h =
    before_traced (λ p. IsAmong p paths) files (trace_of files before first).reads (next (trace_of files before first).value)
    (subst (λ (t : Traced B). AreAmong t.reads paths) (trace_of-and_then files before first next) h)

-- Parts of a run over files: how these answer, how often they broke, and how they follow each other.
module _ {F : Type 0} {stands : F → List ℕ → Option Standing} {broken : F → ℕ} {follows : List (List ℕ) → F → F
    → Type 0} where
  -- one path that is asked for
  pub carried_ask : {A : Type 0} (reads : List (List ℕ)) (path : List ℕ) (next : Option (List ℕ)
      → Asking (Result A ScriptFault)) {X : Type 0} (then : X → Asking (Result A ScriptFault)) (result : Result X Halt)
      (old new : F) →
      Stays stands broken old new → ((paths : List (List ℕ)) → IsAmong path paths → follows paths old new) →
      PartWent (texts (stands old)) reads (Asks path next) then result (with_read reads path) (broken old) (broken new) →
      Performed stands broken follows reads (Asks path next) then result (with_read reads path) old new
  carried_ask reads path next then result old new stays asked went = record {
    stays = stays;
    asked = λ paths among. asked paths
        (before_noted (λ p. IsAmong p paths) reads path (before_traced (λ p. IsAmong p paths) (texts (stands old))
        (with_read reads path) (next (texts (stands old) path)) among)).1;
    went = went;
  }

  -- Parts that leave the files, and what was read, as they are.
  module _ (reflexive : (paths : List (List ℕ)) (files : F) → follows paths files files) {reads : List (List ℕ)} {files : F} where
    -- nothing done yet
    pub carried_here : {X A : Type 0} (asking : X → Asking (Result A ScriptFault)) (x : X)
        → Performed stands broken follows reads (asking x) asking (Ok x) reads files files
    carried_here asking x = record {
      stays = record { meaning = refl; count = omega arith };
      asked = λ paths among. reflexive paths files;
      went = refl;
    }

    -- a part that asks for nothing
    pub carried_pure : {X A : Type 0} {value : Result A ScriptFault} {shown : X → A} {result : Result X Halt}
        → PartGave value shown result
        → Performed stands broken follows reads (Done value) (gives shown) result reads files files
    carried_pure {X = X} {A = A} {value = value} {shown = shown} {result = result} gave = record {
      stays = record { meaning = refl; count = omega arith };
      asked = λ paths among. reflexive paths files;
      went = by result gave;
    }
      where
        by : (result : Result X Halt) → PartGave value shown result → PartWent (texts (stands files)) reads (Done value)
            (gives shown) result reads (broken files) (broken files)
        by (Ok x) gave = ap (λ (v : Result A ScriptFault). trace_of (texts (stands files)) reads (Done v)) gave
        by (Err (Fault fault)) gave = ap (λ (v : Result A ScriptFault). trace_of (texts (stands files)) reads (Done v)) gave
        by (Err (GivenUp cause)) gave = absurd gave
        by (Err NoMemory) gave = tt

    -- a part that asks for nothing and ended early, wherever a value goes that was a fault
    pub carried_unsaid : {X Y A B : Type 0} {asking : Asking (Result A ScriptFault)} {value : Result B ScriptFault} {halt : Halt}
        (shown : Y → B) (then : X → Asking (Result A ScriptFault))
        → ((fault : ScriptFault) → value ≡ Err fault → asking ≡ Done (Err fault)) → PartGave value shown (Err halt)
        → Performed stands broken follows reads asking then (Err halt) reads files files
    carried_unsaid {asking = asking} {value = value} {halt = halt} shown then faults gave = record {
      stays = record { meaning = refl; count = omega arith };
      asked = λ paths among. reflexive paths files;
      went = by halt gave;
    }
      where
        by : (halt : Halt) → PartGave value shown (Err halt) → Halted (texts (stands files)) reads asking halt reads
            (broken files) (broken files)
        by (Fault fault) gave = ap (trace_of (texts (stands files)) reads) (faults fault gave)
        by (GivenUp cause) gave = absurd gave
        by NoMemory gave = tt

    -- a part that is given up for want of memory before it asks
    pub carried_given_up : {X A : Type 0} {asking : Asking (Result A ScriptFault)} {next : X → Asking (Result A ScriptFault)}
        → Performed stands broken follows reads asking next (Err NoMemory) reads files files
    carried_given_up = record {
      stays = record { meaning = refl; count = omega arith };
      asked = λ paths among. reflexive paths files;
      went = tt;
    }

  -- One part, from these reads and files to those.
  module _ {X A : Type 0} {before after : List (List ℕ)} {first : Asking (Result A ScriptFault)} {next : X
      → Asking (Result A ScriptFault)} {old new : F} where
    -- the same by another name
    pub carried_as : {other : Asking (Result A ScriptFault)} {result : Result X Halt} → first ≡ other
        → Performed stands broken follows before first next result after old new
        → Performed stands broken follows before other next result after old new
    carried_as {result = result} e carried =
        subst (λ asking. Performed stands broken follows before asking next result after old new) e carried

    -- as the first of two, and so also what is made of what it comes to
    pub carried_lifted : {B : Type 0} {result : Result X Halt} (more : A → Asking (Result B ScriptFault))
        → Performed stands broken follows before first next result after old new
        → Performed stands broken follows before (and_then first (unless_fault more))
        (λ x. and_then (next x) (unless_fault more)) result after old new
    carried_lifted {B = B} {result = result} more one = record {
      stays = one.stays;
      asked = λ paths among. one.asked paths (first_among (texts (stands old)) before paths first (unless_fault more) among);
      went = by result one.went;
    }
      where
        then_more : {t : Traced (Result A ScriptFault)} → trace_of (texts (stands old)) before first ≡ t
            → trace_of (texts (stands old)) before (and_then first (unless_fault more))
            ≡ trace_of (texts (stands old)) t.reads (unless_fault more t.value)
        then_more h = trace_of-and_then (texts (stands old)) before first (unless_fault more)
            ∙ ap (λ (t : Traced (Result A ScriptFault)). trace_of (texts (stands old)) t.reads (unless_fault more t.value)) h

        by : (result : Result X Halt) → PartWent (texts (stands old)) before first next result after (broken old) (broken new)
            → PartWent (texts (stands old)) before (and_then first (unless_fault more))
            (λ x. and_then (next x) (unless_fault more)) result after (broken old) (broken new)
        by (Ok x) h = then_more h ∙ sym (trace_of-and_then (texts (stands old)) after (next x) (unless_fault more))
        by (Err (Fault fault)) h = then_more h
        by (Err (GivenUp cause)) h = h
        by (Err NoMemory) h = tt

    -- where it passed, by another name for where it goes on
    pub carried_passed : {Y : Type 0} {x : X} (then : Y → Asking (Result A ScriptFault)) (y : Y) → next x ≡ then y
        → Performed stands broken follows before first next (Ok x) after old new
        → Performed stands broken follows before first then (Ok y) after old new
    carried_passed then y e one =
        record { stays = one.stays; asked = one.asked; went = one.went ∙ ap (trace_of (texts (stands old)) after) e }

    -- where it ended early, wherever it would have gone on
    pub carried_ended : {Y : Type 0} {halt : Halt} (then : Y → Asking (Result A ScriptFault))
        → Performed stands broken follows before first next (Err halt) after old new
        → Performed stands broken follows before first then (Err halt) after old new
    carried_ended then one = record { stays = one.stays; asked = one.asked; went = one.went }

    -- where it ended early, as the first of two
    pub carried_failed : {Y B : Type 0} {halt : Halt} (more : A → Asking (Result B ScriptFault)) (then : Y
        → Asking (Result B ScriptFault))
        → Performed stands broken follows before first next (Err halt) after old new
        → Performed stands broken follows before (and_then first (unless_fault more)) then (Err halt) after old new
    carried_failed more then one =
        let lifted = carried_lifted more one in
        record { stays = lifted.stays; asked = lifted.asked; went = lifted.went }

  -- Two parts, the other from where the one passed: the reads and the files before, between and after them.
  module _ (transitive : (paths : List (List ℕ)) (one two three : F) → follows paths one two → follows paths two three
      → follows paths one three) {A : Type 0} {before middle after : List (List ℕ)} {old mid new : F} where
    -- one part after another
    pub carried_on : {X Y : Type 0} {asking : Asking (Result A ScriptFault)} {next : X → Asking (Result A ScriptFault)} {x : X}
        {then : Y → Asking (Result A ScriptFault)} {result : Result Y Halt}
        → Performed stands broken follows before asking next (Ok x) middle old mid
        → Performed stands broken follows middle (next x) then result after mid new
        → Performed stands broken follows before asking then result after old new
    carried_on {asking = asking} {next = next} {x = x} {then = then} {result = result} one two = record {
      stays = record { meaning = two.stays.meaning ∙ one.stays.meaning; count = omega (arith, one.stays.count, two.stays.count) };
      asked = λ paths among. transitive paths old mid new (one.asked paths among)
          (two.asked paths (rw two_here (rw (← one.went) among)));
      went = went_along (texts (stands old)) before middle after asking (next x) (broken old) (broken mid) (broken new) then
          result one.went one.stays.count (rw one.stays.meaning at two.went);
    }
      where
        two_here : texts (stands mid) ≡ texts (stands old)
        two_here = ap texts one.stays.meaning

    -- a part that passed, and then what is made of what it comes to
    pub carried_then : {X Y B : Type 0} {first : Asking (Result B ScriptFault)} {next : X → Asking (Result B ScriptFault)} {x : X}
        {then : Y → Asking (Result A ScriptFault)} {result : Result Y Halt} (more : B → Asking (Result A ScriptFault))
        → Performed stands broken follows before first next (Ok x) middle old mid
        → Performed stands broken follows middle (and_then (next x) (unless_fault more)) then result after mid new
        → Performed stands broken follows before (and_then first (unless_fault more)) then result after old new
    carried_then more one two = carried_on (carried_lifted more one) two

    -- one item after those before it, of a whole that goes on with the item and then with more
    module _ {X Y B : Type 0} {whole : Asking (Result A ScriptFault)} {goes_on : Y → Asking (Result A ScriptFault)} {y : Y}
        {first : Asking (Result B ScriptFault)} {next : X → Asking (Result B ScriptFault)}
        (more : B → Asking (Result A ScriptFault)) where
      pub carried_step : {x : X} → Performed stands broken follows before whole goes_on (Ok y) middle old mid
          → goes_on y ≡ and_then first (unless_fault more)
          → Performed stands broken follows middle first next (Ok x) after mid new
          → Performed stands broken follows before whole (λ (u : Unit {0}). and_then (next x) (unless_fault more)) (Ok tt) after
          old new
      carried_step {x = x} one e two =
          carried_on one (carried_as (sym e) (carried_passed (λ (u : Unit {0}). and_then (next x) (unless_fault more)) tt refl
          (carried_lifted more two)))

      -- the same where the item ended early
      pub carried_halt : {Z : Type 0} {halt : Halt} (then : Z → Asking (Result A ScriptFault))
          → Performed stands broken follows before whole goes_on (Ok y) middle old mid
          → goes_on y ≡ and_then first (unless_fault more)
          → Performed stands broken follows middle first next (Err halt) after mid new
          → Performed stands broken follows before whole then (Err halt) after old new
      carried_halt then one e two = carried_on one (carried_as (sym e) (carried_failed more then two))

-- a text that is seen and then made something of
pub seen_then : {A : Type 0} (own : Option (List ℕ)) (path : List ℕ) (more : Option (List ℕ) → Asking (Result A ScriptFault)) →
    and_then (and_then (see own path) (λ found. Done (Ok found))) (unless_fault more) ≡ and_then (see own path) more
seen_then (Some text) path more = refl
seen_then None path more = refl

-- nothing more to do is nothing more
pub and_then-done : {A : Type 0} (asking : Asking (Result A ScriptFault))
    → and_then asking (unless_fault (λ a. Done (Ok a))) ≡ asking
and_then-done (Done (Ok a)) = refl
and_then-done (Done (Err fault)) = refl
and_then-done (Asks path more) = λ i. Asks path (λ found. and_then-done (more found) i)

-- three after each other
pub and_then-assoc : {A B C : Type 0} (asking : Asking (Result A ScriptFault)) (two : A
    → Asking (Result B ScriptFault)) (three : B → Asking (Result C ScriptFault)) →
    and_then (and_then asking (unless_fault two)) (unless_fault three)
    ≡ and_then asking (unless_fault (λ a. and_then (two a) (unless_fault three)))
and_then-assoc (Done (Ok a)) two three = refl
and_then-assoc (Done (Err fault)) two three = refl
and_then-assoc (Asks path more) two three = λ i. Asks path (λ found. and_then-assoc (more found) two three i)
