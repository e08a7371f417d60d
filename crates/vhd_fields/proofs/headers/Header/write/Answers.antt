use Rattle.std.proofs.Common.{◌≡◌, ◌++◌, ℕ, List, take, refl, ap, ◌∙◌, append_assoc, arith}
use Rattle.std.specs.List.{concat}
use Rattle.byteorder.specs.Endian.{big_bytes}
use Rattle.vhd_fields.specs.Headers.{header_bytes, header_back, header_front}
use Rattle.vhd_fields.proofs.HeaderLaws.{length_front, reads_back, second_sector}
use Rattle.vhd_fields.proofs.Sealing.{parts}
use Rattle.vhd_fields.proofs.headers.Header.write.Goals as goal

bytes_are : (c : goal.After-seal) → c.seal.new.to ≡ header_bytes c.args.self.now
unfolding header_bytes
bytes_are c =
    let h = c.args.self.now in
    let gap : List ℕ = big_bytes 4 0 in
    let front : take c.put_front-at.result c.put_front-at.new.to ≡ concat (header_front h) = rw c.put_front-at.ensures.next c.put_front-at.ensures.written in
    let end : c.put_u32-at.result ≡ 40 = omega arith in
    let begin : take 40 c.put_u32-at.new.to ≡ concat (header_front h) ++ gap = rw (← end) (c.put_u32-at.ensures.written ∙ ap (λ (x : List ℕ). x ++ gap) front) in
    let whole : c.put_back.new.to ≡ concat (header_front h) ++ (gap ++ concat (header_back h)) = c.put_back.ensures ∙ ap (λ (x : List ℕ). x ++ concat (header_back h)) begin ∙ append_assoc (concat (header_front h)) gap (concat (header_back h)) in
    c.seal.ensures ∙ parts 36 (concat (header_front h)) gap (concat (header_back h)) c.put_back.new.to (length_front h) refl whole

pub returns-clause-bytes : goal.returns-clause-bytes
returns-clause-bytes c = bytes_are c

pub returns-clause-reads_back : goal.returns-clause-reads_back
returns-clause-reads_back c = λ good. rw (bytes_are c) (reads_back c.args.self.now good c.put_front-at.ensures.room)

pub returns-clause-second_sector : goal.returns-clause-second_sector
returns-clause-second_sector c = λ image. rw (bytes_are c) (second_sector c.args.self.now c.put_front-at.ensures.room image)
