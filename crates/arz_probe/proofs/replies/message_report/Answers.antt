use Rattle.arz_probe.proofs.Received.{not_peer, not_whole}
use Rattle.arz_probe.proofs.replies.message_report.Goals as goal

pub unreachable-requires : goal.unreachable-requires
unreachable-requires c =
    not_peer c.args.head_only c.closed.result c.args.reader.now c.message-message.result.now c.in-Err-Peer.field-0 _ c.one_message.ensures.apart c.requires c.message-message.ensures c.in-Err-Peer.field-0-is c.in-Err-Peer.ensures

pub unreachable-requires-in-Err-NotWhole : goal.unreachable-requires-in-Err-NotWhole
unreachable-requires-in-Err-NotWhole c =
    not_whole c.args.head_only c.closed.result c.args.reader.now c.message-message.result.now c.in-Err-NotWhole.field-0 c.requires c.closed.ensures c.message-message.ensures c.in-Err-NotWhole.field-0-is c.in-Err-NotWhole.ensures
