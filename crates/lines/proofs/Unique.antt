-- No second outcome fits (C2): one content of the buffer and one number of bytes used, or one answer, for each public function.
use Rattle.text.proofs.Adds.{adds_one}
use Rattle.text.proofs.Puts.{puts_one}
use Rattle.text.proofs.Unique.{OneOutcome, OnePage}
use Rattle.lines.proofs.hex.put_bytes.Kinds as put-bytes-kinds
use Rattle.lines.proofs.hex.put_bytes.Reads as put-bytes-reads
use Rattle.lines.proofs.line.put_choice.Kinds as put-choice-kinds
use Rattle.lines.proofs.line.put_choice.Reads as put-choice-reads
use Rattle.lines.proofs.line.put_cut.Kinds as put-cut-kinds
use Rattle.lines.proofs.line.put_cut.Reads as put-cut-reads
use Rattle.lines.proofs.line.put_line.Kinds as put-line-kinds
use Rattle.lines.proofs.line.put_line.Reads as put-line-reads
use Rattle.lines.proofs.line.put_refused.Kinds as put-refused-kinds
use Rattle.lines.proofs.line.put_refused.Reads as put-refused-reads
use Rattle.lines.proofs.line.put_two.Kinds as put-two-kinds
use Rattle.lines.proofs.line.put_two.Reads as put-two-reads
use Rattle.lines.proofs.hex.put_image.Kinds as put-image-kinds
use Rattle.lines.proofs.hex.put_image.Reads as put-image-reads

pub put_bytes_one : OnePage 3 put-bytes-kinds.ps put-bytes-kinds.r put-bytes-reads.Post (λ κs s. s.0.now)
put_bytes_one κs a x y s t p q = adds_one p q

pub put_choice_one : OnePage 2 put-choice-kinds.ps put-choice-kinds.r put-choice-reads.Post (λ κs s. s.0.now)
put_choice_one κs a x y s t p q = adds_one p q

pub put_cut_one : OnePage 2 put-cut-kinds.ps put-cut-kinds.r put-cut-reads.Post (λ κs s. s.0.now)
put_cut_one κs a x y s t p q = adds_one p q

pub put_line_one : OnePage 3 put-line-kinds.ps put-line-kinds.r put-line-reads.Post (λ κs s. s.0.now)
put_line_one κs a x y s t p q = adds_one p q

pub put_refused_one : OnePage 2 put-refused-kinds.ps put-refused-kinds.r put-refused-reads.Post (λ κs s. s.0.now)
put_refused_one κs a x y s t p q = adds_one p q

pub put_two_one : OnePage 2 put-two-kinds.ps put-two-kinds.r put-two-reads.Post (λ κs s. s.0.now)
put_two_one κs a x y s t p q = adds_one p q

pub put_image_one : OneOutcome 2 put-image-kinds.ps put-image-kinds.r put-image-reads.Post (λ κs s. s.0.now)
put_image_one κs a x y s t p q = puts_one p.0 q.0
