use Rattle.arz_probe.proofs.Received.{report_message, report_fault}
use Rattle.arz_probe.proofs.replies.reply_report.Goals as goal

pub returns-in-Ok : goal.returns-in-Ok
returns-in-Ok c = report_message c.args.head_only c.args.came.now c.read_all.new.reader _ c.message_report.result c.in-Ok.ensures c.message_report.ensures

pub returns : goal.returns
returns c = report_fault c.args.head_only c.args.came.now c.in-Err.fault c.cause_text.result.now c.refused_at.result c.in-Err.ensures c.cause_text.ensures c.refused_at.ensures
