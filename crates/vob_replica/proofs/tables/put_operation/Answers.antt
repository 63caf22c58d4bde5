use Rattle.std.proofs.Common.{◌≡◌, true, false, rules}
use Rattle.vob_replica.specs.Tables.{is_entry_at}
use Rattle.vob_replica.proofs.TableLaws.{put-present, put-absent_ok}
use Rattle.vob_replica.proofs.tables.put_operation.Goals as goal

pub returns-then-is_entry_at-clause-ok : goal.returns-then-is_entry_at-clause-ok
returns-then-is_entry_at-clause-ok c =
    let entries = c.args.entries.now.items in
    let site = c.args.identity.now.site in
    let there : is_entry_at entries c.args.place site ≡ true = search rules in
    put-present entries c.raise_entry.new.entries.items c.args.place c.args.identity.now
    (λ d. c.raise_entry.ensures d) c.requires.place there

pub returns-clause-ok : goal.returns-clause-ok
returns-clause-ok c =
    let entries = c.args.entries.now.items in
    let site = c.args.identity.now.site in
    let none : is_entry_at entries c.args.place site ≡ false = search rules in
    put-absent_ok c.put_entry.result entries c.put_entry.new.entries.items c.args.place c.args.identity.now
    c.put_entry.ensures.ok c.requires.place none
