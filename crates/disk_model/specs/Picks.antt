-- A file and one image of it that a stop may leave.
use Rattle.std.specs.Prelude.{◌≡◌, ℕ, List}
use Rattle.disk_model.specs.Files.{File, IsImage}

-- the bytes are those that a read gives, and the image is one that a stop may leave
pub record IsPicture (file : File) (bytes image : List ℕ) : Type 0 where
  pub reads : bytes ≡ file.bytes
  pub now : IsImage file file.bytes
  pub picked : IsImage file image
