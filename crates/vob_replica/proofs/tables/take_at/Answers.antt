use Rattle.std.proofs.Common.{◌≡◌, sym, subst}
use Rattle.vob_replica.specs.Tables.{with_operation, Ascends}
use Rattle.vob_replica.proofs.PlaceLaws.{place-of}
use Rattle.vob_replica.proofs.TableLaws.{put-present, Ascends-with_operation}
use Rattle.vob_replica.proofs.tables.take_at.Goals as goal

-- the number of its site is raised
pub returns-clause-taken : goal.returns-clause-taken
returns-clause-taken c =
    let entries = c.args.entries.now.items in
    let identity = c.args.identity.now in
    put-present entries c.raise_entry.new.entries.items c.args.place identity (λ d. c.raise_entry.ensures d)
    (place-of identity.site entries c.args.place c.requires.order c.requires.there) c.requires.there

-- so the sites stay in byte order
pub returns-clause-order : goal.returns-clause-order
returns-clause-order c =
    let entries = c.args.entries.now.items in
    let identity = c.args.identity.now in
    let taken : c.raise_entry.new.entries.items ≡ with_operation entries identity =
    put-present entries c.raise_entry.new.entries.items c.args.place identity (λ d. c.raise_entry.ensures d)
    (place-of identity.site entries c.args.place c.requires.order c.requires.there) c.requires.there in
    subst Ascends (sym taken) (Ascends-with_operation entries identity c.requires.order)
