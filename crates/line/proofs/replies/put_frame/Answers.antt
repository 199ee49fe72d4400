use Rattle.line.proofs.ReplyLaws.{framed}
use Rattle.line.proofs.replies.put_frame.Goals as goal

pub returns : goal.returns
returns c =
    simp (c.copy_from_slice.ensures.after, c.copy_from_slice-2.ensures.after, c.copy_from_slice-3.ensures.after, c.split_at_mut-front.ensures.back, c.split_at_mut-header.ensures.back, c.to_be_bytes.ensures) (framed c.args.room.now c.args.head.now c.args.text.now c.requires)
