-- What takes no memory may go to another thread.
use denote.Param.Send.{IsSend, owning_send}
use Rattle.story_log.specs.contracts.steps.Steps.{the_row, the_type}

pub send : IsSend the_row
send = owning_send the_type tt (λ d. tt) (λ k x w. tt)
