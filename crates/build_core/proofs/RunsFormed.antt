-- The row that a unit's run publishes has the form of a row.
use Rattle.std.proofs.Common.{◌≡◌, refl, ap, subst, ℕ, ◌+◌, ◌≤◌, true, Option, Some, None, Result, Ok, Err, List, length, arith}
use Rattle.cc_names.specs.Formed.{IsText, IsListOf, AreEntries, AreTargets, IsDeedFormed}
use Rattle.cc_names.specs.Paths.{root}
use Rattle.cc_names.specs.declared.refusals.ScriptFault.{ScriptFault}
use Rattle.cc_names.specs.declared.rows.Deed.{Deed}
use Rattle.cc_names.specs.declared.rows.Deed.TheVariants as deeds
use Rattle.cc_names.specs.declared.units.Unit.{Unit}
use Rattle.base_model.specs.Rows.{Base}
use Rattle.legal_history.specs.Builds.Active.{Build}
use Rattle.legal_history.specs.Builds.Choices.{entries, here, publish_by, publish_of, visible}
use Rattle.base_model.specs.Texts.{text_of_row}
use Rattle.legal_history.specs.Builds.Fresh.{script_text}
use Rattle.build_core.proofs.RunsEach.{each_so}
use Rattle.build_core.proofs.RunsEnded.{AreOutputs, outputs_short, reads_below}
use Rattle.build_core.proofs.RunsEntries.{entries_formed}
use Rattle.build_core.proofs.RunsGo.{AreReads}
use Rattle.build_core.proofs.RunsSeen.{seen_is_below, nothing_at_root}
use Rattle.base_model.specs.Fits.{is_base}
use Rattle.legal_history.proofs.Reuse.Reusables.{first_are_base}
use Rattle.legal_history.proofs.Stories.ConsistentStories.{base_within}
use Rattle.build_core.specs.Publishing.{HasObjects, CanPublish}

-- the texts that a unit sees, none at the root
abbrev texts_seen : Base → Build → ℕ → Unit → List ℕ → Option (List ℕ)
texts_seen b build n unit path = text_of_row b path (visible b build n unit path)

rootless : (b : Base) (build : Build) (n : ℕ) (unit : Unit) → HasObjects b build → texts_seen b build n unit root ≡ None
rootless b build n unit h = ap (text_of_row b root) (nothing_at_root b build n unit h)

reads_formed : (b : Base) (build : Build) (n : ℕ) (unit : Unit) (outputs : List (List ℕ)) → is_base b ≡ true
    → CanPublish b build unit → (here b build n unit).result ≡ Ok outputs →
    AreEntries (entries (visible b build n unit) (here b build n unit).reads)
reads_formed b build n unit outputs base h ran =
    entries_formed (visible b build n unit) (here b build n unit).reads
    (λ path row is. let low = seen_is_below b build n unit path row (first_are_base b build.rows base) h.objects is in
    let room = base_within b base in omega arith)
    are.each
    (let few = are.few in let short = h.script in omega arith)
  where
    are : AreReads (length (script_text unit.script) + 100000) (here b build n unit).reads
    are = reads_below (script_text unit.script) unit.targets (texts_seen b build n unit) outputs
        (rootless b build n unit h.objects) ran

outputs_formed : (targets outputs : List (List ℕ)) → AreTargets targets → AreOutputs targets outputs → IsListOf IsText outputs
outputs_formed targets outputs are h = (
  (let few = are.0.0 in let many = h.many in omega arith),
  each_so (λ output. length output ≤ 1048576) IsText (λ output short. omega arith) outputs h.short,
)

-- The deed of a unit's run that succeeds is formed.
pub publish_is_formed : (b : Base) (build : Build) (n : ℕ) (unit : Unit) (outputs : List (List ℕ)) → is_base b ≡ true
    → CanPublish b build unit → (here b build n unit).result ≡ Ok outputs →
    IsDeedFormed (deeds.Publish build.view unit.targets (script_text unit.script)
    (entries (visible b build n unit) (here b build n unit).reads) outputs)
publish_is_formed b build n unit outputs base h ran =
    let are = outputs_short (script_text unit.script) unit.targets (texts_seen b build n unit) outputs
    (rootless b build n unit h.objects) ran in (
      (h.view, h.targets, (let short = h.script in omega arith), reads_formed b build n unit outputs base h ran, are.many),
      outputs_formed unit.targets outputs h.targets are,
    )

-- So is the deed that a unit would publish.
pub published_is_formed : (b : Base) (build : Build) (n : ℕ) (unit : Unit) (deed : Deed) → is_base b ≡ true
    → CanPublish b build unit → publish_of b build n unit ≡ Some deed → IsDeedFormed deed
published_is_formed b build n unit deed base h is = by (here b build n unit).result refl is
  where
    by : (r : Result (List (List ℕ)) ScriptFault) → (here b build n unit).result ≡ r →
        publish_by build unit (entries (visible b build n unit) (here b build n unit).reads) r ≡ Some deed → IsDeedFormed deed
    by (Err fault) ran is = absurd (cc)
    by (Ok outputs) ran is =
        let same : deeds.Publish build.view unit.targets (script_text unit.script)
        (entries (visible b build n unit) (here b build n unit).reads) outputs ≡ deed = cc in
        subst IsDeedFormed same (publish_is_formed b build n unit outputs base h ran)
