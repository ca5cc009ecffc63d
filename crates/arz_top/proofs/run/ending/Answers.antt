use Rattle.arz_top.proofs.run.ending.Goals as goal

pub returns-in-Mock-clause-comes : goal.returns-in-Mock-clause-comes
returns-in-Mock-clause-comes g c = rw (← c.in_ok-setup.ensures, c.in-Mock.is) (rw (c.as_str.ensures, c.as_str-in-Mock.ensures) at c.mock_files.ensures.mocks)

pub returns-in-Check-clause-comes : goal.returns-in-Check-clause-comes
returns-in-Check-clause-comes g c = rw (← c.in_ok-setup.ensures, c.in-Check.is) (rw c.as_str-in-Check.ensures at c.check_files.ensures.checks)
