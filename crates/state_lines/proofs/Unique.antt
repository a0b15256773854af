-- No second outcome fits (C2): one content of the buffer and one number of bytes used.
use Rattle.state_lines.proofs.put_states.Kinds as put-states-kinds
use Rattle.state_lines.proofs.put_states.Reads as put-states-reads
use Rattle.text.proofs.Adds.{adds_one}
use Rattle.text.proofs.Unique.{OnePage}

pub put_states_one : OnePage 4 put-states-kinds.ps put-states-kinds.r put-states-reads.Post (λ κs s. s.0.now)
put_states_one κs a x y s t p q = adds_one p q
