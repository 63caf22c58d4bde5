use Rattle.std.proofs.Common.{ℕ, ap, ◌∙◌}
use Rattle.vob_replica.specs.Branches.{has_number_at}
use Rattle.vob_replica.proofs.VersionLaws.{number-at}
use Rattle.vob_replica.proofs.branch.has_version_number.Goals as goal

-- the versions stand by number
pub returns : goal.returns
returns c =
    c.has_number_at.ensures ∙ ap (λ (p : ℕ). has_number_at c.args.versions.now p c.args.number) c.number_place-place.ensures
    ∙ number-at c.args.number c.args.versions.now c.requires
