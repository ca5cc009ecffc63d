use Rattle.arz_wire.proofs.Measures.{list_length, object_length}
use Rattle.arz_wire.proofs.measure.+measure.Goals as goal

pub tree_length-returns-in-List-clause-some : goal.tree_length-returns-in-List-clause-some
tree_length-returns-in-List-clause-some t c = rw (c.in-List.is, list_length) c.items_length.ensures.some

pub tree_length-returns-in-List-clause-none : goal.tree_length-returns-in-List-clause-none
tree_length-returns-in-List-clause-none t c = rw (c.in-List.is, list_length) c.items_length.ensures.none

pub tree_length-returns-in-Object-clause-some : goal.tree_length-returns-in-Object-clause-some
tree_length-returns-in-Object-clause-some t c = rw (c.in-Object.is, object_length) c.members_length.ensures.some

pub tree_length-returns-in-Object-clause-none : goal.tree_length-returns-in-Object-clause-none
tree_length-returns-in-Object-clause-none t c = rw (c.in-Object.is, object_length) c.members_length.ensures.none
