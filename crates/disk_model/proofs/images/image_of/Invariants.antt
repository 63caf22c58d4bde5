use Rattle.std.proofs.Common.{ℕ, ◌≡◌, ◌<◌, List, length, take}
use Rattle.disk_model.specs.Devices.{new_device, bytes_handed_in, file_of}
use Rattle.disk_model.specs.Records.{device_of}
use Rattle.disk_model.specs.Picks.{IsPicture}
use Rattle.disk_model.proofs.images.image_of.Given as goal

abbrev pub invariant-loop-traced : goal.invariant-loop-traced
invariant-loop-traced l = record {
  before : l.made < l.call;
  follows : (journal objects : List ℕ) → bytes_handed_in l.file (new_device journal objects) ≡ l.first
      → IsPicture (file_of l.file (device_of journal objects (take l.traced-index l.trace) 0)) l.picture.bytes.items
      l.picture.image.items
      × (l.made ≡ length (device_of journal objects (take l.traced-index l.trace) 0).calls);
}
