use Rattle.std.proofs.Common.{sym}
use Rattle.spec_text.specs.OptionSteps.{plain_options}
use Rattle.spec_text.proofs.GoingOn.{nocheckout_goes, time_goes, mkbranch_goes}
use Rattle.spec_text.proofs.options.next_option.Goals as goal

pub returns-in-NoCheckout : goal.returns-in-NoCheckout
returns-in-NoCheckout c =
    rw c.with_nocheckout.ensures (nocheckout_goes c.args.word.now c.args.words.now (plain_options c.args.options)
    (sym c.in-NoCheckout.ensures))

pub returns-in_ok-next-in-Time : goal.returns-in_ok-next-in-Time
returns-in_ok-next-in-Time c =
    rw (c.in_ok-next-in-Time.ensures, c.with_time.ensures)
    (time_goes c.args.word.now c.in_ok-next-in-Time.field-0.now c.next.new.self (plain_options c.args.options)
    (sym c.in-Time.ensures))

pub returns-in_ok-next-in-MkBranch : goal.returns-in_ok-next-in-MkBranch
returns-in_ok-next-in-MkBranch c =
    rw (c.in_ok-next-in-MkBranch.ensures, c.with_mkbranch.ensures)
    (mkbranch_goes c.args.word.now c.in_ok-next-in-MkBranch.field-0.now c.next-in-MkBranch.new.self (plain_options c.args.options)
    (sym c.in-MkBranch.ensures))
