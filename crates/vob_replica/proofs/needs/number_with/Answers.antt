use Rattle.std.proofs.Common.{◌≡◌, max, true, false, sym, ◌∙◌, arith, rules}
use Rattle.std.specs.Str.{bytes_eq}
use Rattle.vob_replica.specs.Tables.{number_in}
use Rattle.vob_replica.proofs.HoldLaws.{other-number}
use Rattle.vob_replica.proofs.NeedLaws.{number-raised}
use Rattle.vob_replica.proofs.needs.number_with.Goals as goal

-- the operation is one of the site
pub returns-then-eq : goal.returns-then-eq
returns-then-eq c =
    let table = c.args.table.now in
    let own = c.args.own.now in
    let site = c.args.site.now in
    let same : bytes_eq own.site site ≡ true = first_of (search rules, cc) in
    let has = c.number-number.ensures in
    let highest : c.max.result ≡ max (number_in table site) own.number = first_of (search rules, grind arith, cc) in
    highest ∙ number-raised table own site c.is_in_order.ensures same

-- it is one of another
pub returns : goal.returns
returns c =
    let differs : bytes_eq c.args.own.now.site c.args.site.now ≡ false = first_of (search rules, cc) in
    c.number-number.ensures
    ∙ sym (other-number c.args.table.now c.args.own.now c.args.site.now c.is_in_order.ensures differs)
