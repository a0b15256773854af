-- The five parts of a state.
use Rattle.state_lines.specs.State.{state_text}
use Rattle.text.proofs.Adds.{adds_then}
use Rattle.state_lines.proofs.put_states.Goals as goal

pub returns : goal.returns
unfolding state_text
returns c = adds_then c.put_notice.ensures (adds_then c.put_clock.ensures (adds_then c.put_queue.ensures (adds_then c.put_counts.ensures c.put_vms.ensures)))
