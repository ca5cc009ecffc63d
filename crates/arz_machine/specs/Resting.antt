-- Where the code's state rests.
use Rattle.arz_machine.specs.declared.state.State.{State}
use Rattle.arz_machine.specs.declared.state.State.TheVariants as state
use Rattle.arz_machine.specs.States.{Rest, Sends, Ended}

abbrev pub rest_of : State → Rest
rest_of (state.Sends ready) = Sends ready.request
rest_of (state.Ended e) = Ended e
