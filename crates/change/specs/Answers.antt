-- Notices and answers (A1 to A8).
use Rattle.std.specs.Prelude.{ℕ}
use Rattle.basis.specs.Nobody.{nobody}
use Rattle.change.specs.declared.Answer.{Answer}
use Rattle.change.specs.declared.Notice.{Notice}

-- A1: a notice with its VM, code and data
abbrev pub notice_with : ℕ → ℕ → ℕ → ℕ → Notice
notice_with kind v code detail = record { kind = kind; vm = v; code = code; detail = detail }

-- A4, A7
abbrev pub no_notice : Notice
no_notice = notice_with 0 0 0 0

-- A4: VM v was stopped by the master (1), or shut itself down (2)
abbrev pub notice_of : ℕ → ℕ → Notice
notice_of kind v = notice_with kind v 0 0

-- A4, A5: VM v is in error
abbrev pub error_of : ℕ → ℕ → ℕ → Notice
error_of v code detail = notice_with 3 v code detail

-- A7: an answer that tells nothing but who runs and where
abbrev pub quietly : ℕ → ℕ → ℕ → Answer
quietly refusal running address =
    record { refusal = refusal; running = running; address = address; delivered = nobody; notice = no_notice; result = 0; removed = 0 }
