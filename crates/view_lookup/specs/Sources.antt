-- What the text of a row comes from, as code tells it.
use Rattle.base_model.specs.Texts.{TextSource, Bytes, OfRow, NoText}
use Rattle.view_lookup.specs.declared.texts.TextSource as code
use Rattle.view_lookup.specs.declared.texts.TextSource.TheVariants as codes

-- where code finds the text of a row
abbrev pub plain_source : code.TextSource → TextSource
plain_source (codes.Bytes bytes) = Bytes bytes.now
plain_source (codes.OfRow row) = OfRow row
plain_source codes.NoText = NoText
