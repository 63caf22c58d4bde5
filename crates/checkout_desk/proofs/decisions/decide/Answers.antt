-- What is decided of the form that was matched is decided of the change.
use Rattle.checkout_desk.proofs.MatchedChanges.{matched, matched_made}
use Rattle.checkout_desk.proofs.decisions.decide.Goals as goal

pub returns-in-Mkview : goal.returns-in-Mkview
returns-in-Mkview c = matched_made c.args.rows.now c.args.occasion _ _ _ _ c.in-Mkview.is c.with_row.ensures
    (λ scene sees. c.mkview.ensures scene _ _ _ sees)

pub returns-in-Rmview : goal.returns-in-Rmview
returns-in-Rmview c = matched_made c.args.rows.now c.args.occasion _ _ _ _ c.in-Rmview.is c.with_row-in-Rmview.ensures
    (λ scene sees. c.rmview.ensures scene _ sees)

pub returns-in-Setcs : goal.returns-in-Setcs
returns-in-Setcs c = matched_made c.args.rows.now c.args.occasion _ _ _ _ c.in-Setcs.is c.with_row-in-Setcs.ensures
    (λ scene sees. c.setcs.ensures scene _ sees)

pub returns-in-Mkelem : goal.returns-in-Mkelem
returns-in-Mkelem c = matched_made c.args.rows.now c.args.occasion _ _ _ _ c.in-Mkelem.is c.with_row-in-Mkelem.ensures
    (λ scene sees. c.mkelem.ensures scene _ sees)

pub returns-in-Mkdir : goal.returns-in-Mkdir
returns-in-Mkdir c = matched_made c.args.rows.now c.args.occasion _ _ _ _ c.in-Mkdir.is c.with_row-in-Mkdir.ensures
    (λ scene sees. c.mkelem-in-Mkdir.ensures scene _ sees)

pub returns-in-Checkout : goal.returns-in-Checkout
returns-in-Checkout c = matched_made c.args.rows.now c.args.occasion _ _ _ _ c.in-Checkout.is c.with_row-in-Checkout.ensures
    (λ scene sees. c.checkout.ensures scene _ sees)

pub returns-in-Mkbranch : goal.returns-in-Mkbranch
returns-in-Mkbranch c = matched_made c.args.rows.now c.args.occasion _ _ _ _ c.in-Mkbranch.is c.with_row-in-Mkbranch.ensures
    (λ scene sees. c.mkbranch.ensures scene _ sees)

pub returns-in-Save : goal.returns-in-Save
returns-in-Save c = matched_made c.args.rows.now c.args.occasion _ _ _ _ c.in-Save.is c.with_row-in-Save.ensures
    (λ scene sees. c.save.ensures scene _ sees)

pub returns-in-Rm : goal.returns-in-Rm
returns-in-Rm c = matched_made c.args.rows.now c.args.occasion _ _ _ _ c.in-Rm.is c.with_row-in-Rm.ensures
    (λ scene sees. c.rm.ensures scene _ sees)

pub returns-in-Checkin : goal.returns-in-Checkin
returns-in-Checkin c = matched_made c.args.rows.now c.args.occasion _ _ _ _ c.in-Checkin.is c.with_row-in-Checkin.ensures
    (λ scene sees. c.checkin.ensures scene _ sees)

pub returns-in-Uncheckout : goal.returns-in-Uncheckout
returns-in-Uncheckout c = matched_made c.args.rows.now c.args.occasion _ _ _ _ c.in-Uncheckout.is c.with_row-in-Uncheckout.ensures
    (λ scene sees. c.uncheckout.ensures scene _ sees)

pub returns-in-Rmname : goal.returns-in-Rmname
returns-in-Rmname c = matched_made c.args.rows.now c.args.occasion _ _ _ _ c.in-Rmname.is c.with_row-in-Rmname.ensures
    (λ scene sees. c.rmname.ensures scene _ sees)

pub returns-in-Mv : goal.returns-in-Mv
returns-in-Mv c = matched_made c.args.rows.now c.args.occasion _ _ _ _ c.in-Mv.is c.with_row-in-Mv.ensures
    (λ scene sees. c.mv.ensures scene _ sees)

pub returns-in-Mklbtype : goal.returns-in-Mklbtype
returns-in-Mklbtype c = matched_made c.args.rows.now c.args.occasion _ _ _ _ c.in-Mklbtype.is c.with_row-in-Mklbtype.ensures
    (λ scene sees. c.mktype.ensures scene _ _ _ sees)

pub returns-in-Mkbrtype : goal.returns-in-Mkbrtype
returns-in-Mkbrtype c = matched_made c.args.rows.now c.args.occasion _ _ _ _ c.in-Mkbrtype.is c.with_row-in-Mkbrtype.ensures
    (λ scene sees. c.mktype-in-Mkbrtype.ensures scene _ _ _ sees)

pub returns-in-Mklabel : goal.returns-in-Mklabel
returns-in-Mklabel c = matched_made c.args.rows.now c.args.occasion _ _ _ _ c.in-Mklabel.is c.with_row-in-Mklabel.ensures
    (λ scene sees. c.mklabel.ensures scene _ sees)

pub returns-in-Rmlabel : goal.returns-in-Rmlabel
returns-in-Rmlabel c = matched_made c.args.rows.now c.args.occasion _ _ _ _ c.in-Rmlabel.is c.with_row-in-Rmlabel.ensures
    (λ scene sees. c.rmlabel.ensures scene _ sees)

pub returns-in-Mkarrow : goal.returns-in-Mkarrow
returns-in-Mkarrow c = matched_made c.args.rows.now c.args.occasion _ _ _ _ c.in-Mkarrow.is c.with_row-in-Mkarrow.ensures
    (λ scene sees. c.mkarrow.ensures scene _ sees)

pub returns-in-Rmdo : goal.returns-in-Rmdo
returns-in-Rmdo c = matched_made c.args.rows.now c.args.occasion _ _ _ _ c.in-Rmdo.is c.with_row-in-Rmdo.ensures
    (λ scene sees. c.rmdo.ensures scene _ sees)

pub returns-in-MklabelConfig : goal.returns-in-MklabelConfig
returns-in-MklabelConfig c = matched c.args.rows.now c.args.occasion _ _ _ c.in-MklabelConfig.is
    (λ scene sees. c.mklabel_config.ensures scene _ sees)
