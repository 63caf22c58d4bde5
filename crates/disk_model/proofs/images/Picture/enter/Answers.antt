use Rattle.disk_model.proofs.Pictures.{picture_written, picture_torn}
use Rattle.disk_model.proofs.images.Picture.enter.Goals as goal

pub returns-then-other-file : goal.returns-then-other-file
returns-then-other-file c =
    picture_written _ _ _ _ _ c.write.result _ _ _ _ _ c.in-Write.is c.as_bytes.ensures c.if-other-file.true c.write.ensures.bytes
    c.write.ensures.image

pub returns-then-other-file-2 : goal.returns-then-other-file-2
returns-then-other-file-2 c =
    picture_torn _ _ _ _ _ c.write-then-other-file-2.result _ _ _ _ _ _ c.in-Tear.is c.as_bytes-then-other-file-2.ensures
    c.if-other-file-2.true c.write-then-other-file-2.ensures.bytes c.write-then-other-file-2.ensures.image
