-- No second outcome fits (C2): what two calls that meet a function's contract answer, and what they leave in the buffer, is the same.
use Prim.Native.Nat.{ℕ}
use borrow.Fn.Kinds.{Dens, Out, ParamKind, ResultKind, ended_of, res_t}
use contract.Lifetimes.{Lfts}
use denote.Triple.Clauses.{AtExit}
use mathlib.Core.List.{List}
use mathlib.Core.Path.{sym, ◌∙◌, ◌≡◌}
use Rattle.text.proofs.Adds.{adds_one}
use Rattle.text.proofs.page.Page.put_address.Kinds as put-address-kinds
use Rattle.text.proofs.page.Page.put_address.Reads as put-address-reads
use Rattle.text.proofs.page.Page.put_byte.Kinds as put-byte-kinds
use Rattle.text.proofs.page.Page.put_byte.Reads as put-byte-reads
use Rattle.text.proofs.page.Page.put_decimal.Kinds as put-decimal-kinds
use Rattle.text.proofs.page.Page.put_decimal.Reads as put-decimal-reads
use Rattle.text.proofs.page.Page.put_hex8.Kinds as put-hex8-kinds
use Rattle.text.proofs.page.Page.put_hex8.Reads as put-hex8-reads
use Rattle.text.proofs.page.Page.put_hex_byte.Kinds as put-hex-byte-kinds
use Rattle.text.proofs.page.Page.put_hex_byte.Reads as put-hex-byte-reads
use Rattle.text.proofs.page.Page.put_mark.Kinds as put-mark-kinds
use Rattle.text.proofs.page.Page.put_mark.Reads as put-mark-reads
use Rattle.text.proofs.page.Page.put_number.Kinds as put-number-kinds
use Rattle.text.proofs.page.Page.put_number.Reads as put-number-reads
use Rattle.text.proofs.page.Page.put_word.Kinds as put-word-kinds
use Rattle.text.proofs.page.Page.put_word.Reads as put-word-reads
use Rattle.text.proofs.pair.table.Kinds as table-kinds
use Rattle.text.proofs.pair.table.Reads as table-reads
use Rattle.text.specs.declared.page.Page.{Page}

-- for the same arguments one content of the buffer and one answer; `Post` is the contract as the source has it, `content` what a buffer holds at exit
abbrev pub OneOutcome : (n : ℕ) (ps : List (ParamKind n)) (r : ResultKind n) → Out n ps r → ((κs : Lfts n) → AtExit (ended_of n ps r) κs → List ℕ) → Type 0
OneOutcome n ps r Post content =
    (κs : Lfts n) (a : Dens κs ps) (x y : (res_t r κs).Denot) (s t : AtExit (ended_of n ps r) κs) → Post κs a x s → Post κs a y t → (content κs s ≡ content κs t) × (x ≡ y)

-- for the same arguments one content of the buffer that a page lends, and one number of bytes used; `page` is what the page is at exit
abbrev pub OnePage : (n : ℕ) (ps : List (ParamKind n)) (r : ResultKind n) → Out n ps r → ((κs : Lfts n) → AtExit (ended_of n ps r) κs → Page) → Type 0
OnePage n ps r Post page =
    (κs : Lfts n) (a : Dens κs ps) (x y : (res_t r κs).Denot) (s t : AtExit (ended_of n ps r) κs) → Post κs a x s → Post κs a y t
    → ((page κs s).bytes.now ≡ (page κs t).bytes.now) × ((page κs s).used ≡ (page κs t).used)

pub put_address_one : OnePage 2 put-address-kinds.ps put-address-kinds.r put-address-reads.Post (λ κs s. s.0.now)
put_address_one κs a x y s t p q = adds_one p q

pub put_byte_one : OnePage 2 put-byte-kinds.ps put-byte-kinds.r put-byte-reads.Post (λ κs s. s.0.now)
put_byte_one κs a x y s t p q = adds_one p q

pub put_decimal_one : OnePage 2 put-decimal-kinds.ps put-decimal-kinds.r put-decimal-reads.Post (λ κs s. s.0.now)
put_decimal_one κs a x y s t p q = adds_one p q

pub put_hex8_one : OnePage 2 put-hex8-kinds.ps put-hex8-kinds.r put-hex8-reads.Post (λ κs s. s.0.now)
put_hex8_one κs a x y s t p q = adds_one p q

pub put_hex_byte_one : OnePage 2 put-hex-byte-kinds.ps put-hex-byte-kinds.r put-hex-byte-reads.Post (λ κs s. s.0.now)
put_hex_byte_one κs a x y s t p q = adds_one p q

pub put_mark_one : OnePage 2 put-mark-kinds.ps put-mark-kinds.r put-mark-reads.Post (λ κs s. s.0.now)
put_mark_one κs a x y s t p q = adds_one p q

pub put_number_one : OnePage 2 put-number-kinds.ps put-number-kinds.r put-number-reads.Post (λ κs s. s.0.now)
put_number_one κs a x y s t p q = adds_one p q

pub put_word_one : OnePage 3 put-word-kinds.ps put-word-kinds.r put-word-reads.Post (λ κs s. s.0.now)
put_word_one κs a x y s t p q = adds_one p q

-- the table that is lent has one content
pub table_one : (κs : Lfts 1) (a : Dens κs table-kinds.ps) (x y : (res_t table-kinds.r κs).Denot) (s t : AtExit (ended_of 1 table-kinds.ps table-kinds.r) κs)
    → table-reads.Post κs a x s → table-reads.Post κs a y t → x.now ≡ y.now
table_one κs a x y s t p q = p ∙ sym q
