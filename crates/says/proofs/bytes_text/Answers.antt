-- The bytes are written into zeros, which are as many as the longest text has bytes.
-- Assumes nothing.
use Rattle.text.specs.TextLaws.{text_made}
use Rattle.says.proofs.bytes_text.Goals as goal

pub returns : goal.returns
returns c = let s = c in text_made s.args.w.now _ _ s.requires c.put_bytes-len.ensures
