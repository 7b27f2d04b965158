-- `buffer::put_bytes` meets its contract. Assumes nothing.
use Rattle.buffer.proofs.Putting.{put_text}
use Rattle.buffer.proofs.put_bytes.Goals as goal

pub returns : goal.returns
returns c = put_text c.requires c.copy_from_slice.ensures.after
