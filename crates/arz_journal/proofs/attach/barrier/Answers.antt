use Rattle.std.proofs.Common.{◌∙◌, sym}
use Rattle.arz_journal.proofs.Begins.{looks_none, looks_on}
use Rattle.arz_journal.proofs.attach.barrier.Goals as goal

pub returns-in_err-attach-clause-looks : goal.returns-in_err-attach-clause-looks
returns-in_err-attach-clause-looks g c = looks_on _ _ _ (looks_none _) c.attach.ensures.call c.attach.ensures.images c.attach.ensures.file

pub returns-in_err-sync-clause-looks : goal.returns-in_err-sync-clause-looks
returns-in_err-sync-clause-looks g c = looks_on _ _ _ (looks_on _ _ _ (looks_none _) c.attach.ensures.call c.attach.ensures.images c.attach.ensures.file) c.sync.ensures.call c.sync.ensures.images c.sync.ensures.file

pub returns-in_err-size-clause-looks : goal.returns-in_err-size-clause-looks
returns-in_err-size-clause-looks g c = looks_on _ _ _ (looks_on _ _ _ (looks_on _ _ _ (looks_none _) c.attach.ensures.call c.attach.ensures.images c.attach.ensures.file) c.sync.ensures.call c.sync.ensures.images c.sync.ensures.file) c.size.ensures.call c.size.ensures.images c.size.ensures.file

pub returns-clause-looks : goal.returns-clause-looks
returns-clause-looks g c = looks_on _ _ _ (looks_on _ _ _ (looks_on _ _ _ (looks_none _) c.attach.ensures.call c.attach.ensures.images c.attach.ensures.file) c.sync.ensures.call c.sync.ensures.images c.sync.ensures.file) c.size.ensures.call c.size.ensures.images c.size.ensures.file

pub returns-clause-stable : goal.returns-clause-stable
returns-clause-stable g c = λ image left. c.in_ok-sync.ensures.stable image (c.size.ensures.images image left) ∙ sym c.size.ensures.file
