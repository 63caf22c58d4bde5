-- Relations of what is told before and after.
use Rattle.std.proofs.Common.{Option, Some, None, Result, Ok, Err, MatchResult}
use Rattle.disk_model.specs.Devices.{Device}
use Rattle.disk_model.specs.DiskStates.{IfModeled, Both}

pub both_map : (R S : Device → Device → Type 0) (old new : Option Device) → ((d e : Device) → R d e → S d e) → Both R old new
    → Both S old new
both_map R S None None f h = tt
both_map R S None (Some e) f h = h
both_map R S (Some d) None f h = h
both_map R S (Some d) (Some e) f h = f d e h

-- the same where something is known of what was reported before
pub both_from : (P : Device → Type 0) (R S : Device → Device → Type 0) (old new : Option Device)
    → ((d e : Device) → P d → R d e → S d e)
    → IfModeled old P → Both R old new → Both S old new
both_from P R S None None f p h = tt
both_from P R S None (Some e) f p h = h
both_from P R S (Some d) None f p h = h
both_from P R S (Some d) (Some e) f p h = f d e p h

pub both_then : (R S T : Device → Device → Type 0) (old mid new : Option Device) → ((d e f : Device) → R d e → S e f → T d f)
    → Both R old mid → Both S mid new → Both T old new
both_then R S T None None None f r s = tt
both_then R S T None None (Some e) f r s = s
both_then R S T None (Some e) new f r s = absurd r
both_then R S T (Some d) None new f r s = absurd r
both_then R S T (Some d) (Some e) None f r s = s
both_then R S T (Some d) (Some e) (Some g) f r s = f d e g r s

pub both_same : (P : Device → Type 0) (R : Device → Device → Type 0) (modeled : Option Device) → ((d : Device) → P d → R d d)
    → IfModeled modeled P → Both R modeled modeled
both_same P R None f p = tt
both_same P R (Some d) f p = f d p

pub modeled_next : (R : Device → Device → Type 0) (P : Device → Type 0) (old new : Option Device) → ((d e : Device) → R d e → P e)
    → Both R old new → IfModeled new P
modeled_next R P None None f h = tt
modeled_next R P None (Some e) f h = absurd h
modeled_next R P (Some d) None f h = tt
modeled_next R P (Some d) (Some e) f h = f d e h

pub modeled_map : (P Q : Device → Type 0) (modeled : Option Device) → ((d : Device) → P d → Q d) → IfModeled modeled P
    → IfModeled modeled Q
modeled_map P Q None f p = tt
modeled_map P Q (Some d) f p = f d p

-- the same of an answer, which tells one relation at Ok and another at Err
pub answer_from : {T E : Type 0} (r : Result T E) (P : Device → Type 0) (R R' S S' : Device → Device
    → Type 0) (old new : Option Device)
    → ((d e : Device) → P d → R d e → R' d e) → ((d e : Device) → P d → S d e → S' d e) → IfModeled old P
    → MatchResult r (λ _. Both R old new) (λ _. Both S old new) → MatchResult r (λ _. Both R' old new) (λ _. Both S' old new)
answer_from (Ok x) P R R' S S' old new f g p h = both_from P R R' old new f p h
answer_from (Err e) P R R' S S' old new f g p h = both_from P S S' old new g p h

pub both_three : (R S T U : Device → Device → Type 0) (old one two new : Option Device)
    → ((d e f g : Device) → R d e → S e f → T f g → U d g)
    → Both R old one → Both S one two → Both T two new → Both U old new
both_three R S T U None None None None k r s t = tt
both_three R S T U None None None (Some g) k r s t = t
both_three R S T U None None (Some f) new k r s t = absurd s
both_three R S T U None (Some e) two new k r s t = absurd r
both_three R S T U (Some d) None two new k r s t = absurd r
both_three R S T U (Some d) (Some e) None new k r s t = absurd s
both_three R S T U (Some d) (Some e) (Some f) None k r s t = t
both_three R S T U (Some d) (Some e) (Some f) (Some g) k r s t = k d e f g r s t

pub modeled_both : (P Q R : Device → Type 0) (modeled : Option Device) → ((d : Device) → P d → Q d → R d) → IfModeled modeled P
    → IfModeled modeled Q → IfModeled modeled R
modeled_both P Q R None f p q = tt
modeled_both P Q R (Some d) f p q = f d p q

-- what is known afterwards was known before
pub modeled_back : (R : Device → Device → Type 0) (P Q : Device → Type 0) (old new : Option Device)
    → ((d e : Device) → R d e → Q e → P d)
    → Both R old new → IfModeled new Q → IfModeled old P
modeled_back R P Q None new f h q = tt
modeled_back R P Q (Some d) None f h q = absurd h
modeled_back R P Q (Some d) (Some e) f h q = f d e h q

-- what was known before is known afterwards
pub modeled_from : (R : Device → Device → Type 0) (P Q : Device → Type 0) (old new : Option Device)
    → ((d e : Device) → P d → R d e → Q e)
    → IfModeled old P → Both R old new → IfModeled new Q
modeled_from R P Q None None f p h = tt
modeled_from R P Q None (Some e) f p h = absurd h
modeled_from R P Q (Some d) None f p h = tt
modeled_from R P Q (Some d) (Some e) f p h = f d e p h
