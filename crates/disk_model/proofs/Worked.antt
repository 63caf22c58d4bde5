-- Devices, worked out by hand.
use Rattle.std.proofs.Common.{◌≡◌, List, [], ◌∷◌, refl}
use Rattle.disk_model.specs.Devices.{Event, Measured, Wrote, Tore, Synced, Failed, new_device, with_call, bytes_now, failures}

-- of these calls the second and the last failed
calls : List Event
calls = Failed ∷ Synced 0 ∷ Wrote 0 0 1 (120 ∷ 98 ∷ []) ∷ Tore 0 0 2 (120 ∷ 7 ∷ []) ∷ Measured 0 ∷ []

two_failed : failures calls ≡ 2
unfolding calls
two_failed = refl

none_failed : failures (Synced 0 ∷ Wrote 0 0 1 (120 ∷ 98 ∷ []) ∷ Measured 0 ∷ []) ≡ 0
none_failed = refl

-- a write that failed has left the file as it says
torn : bytes_now 0 (with_call (Tore 0 0 2 (120 ∷ 7 ∷ [])) (new_device (97 ∷ 98 ∷ []) [])) ≡ 120 ∷ 7 ∷ []
torn = refl
