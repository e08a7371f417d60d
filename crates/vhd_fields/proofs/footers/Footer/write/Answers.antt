use Rattle.std.proofs.Common.{◌≡◌, ◌≤◌, ◌++◌, ℕ, List, length, take, replicate, refl, sym, ap, ◌∙◌, arith}
use Rattle.std.specs.List.{concat}
use Rattle.std.proofs.lemmas.List.{take_all}
use Rattle.byteorder.specs.Endian.{big_bytes}
use Rattle.vhd_fields.specs.Footers.{FooterFits, footer_bytes, footer_back, footer_front}
use Rattle.vhd_fields.proofs.FooterLaws.{length_front, keeps, reads_back}
use Rattle.vhd_fields.proofs.Sealing.{two_behind}
use Rattle.vhd_fields.proofs.footers.Footer.write.Goals as goal

room_of : (c : goal.After-seal) → FooterFits c.args.self.now
room_of c = c.put_front-at.ensures.room

bytes_are : (c : goal.After-seal) → c.seal.new.to ≡ footer_bytes c.args.self.now
unfolding footer_bytes footer_back
bytes_are c =
    let f = c.args.self.now in
    let front : take c.put_front-at.result c.put_front-at.new.to ≡ concat (footer_front f) = rw c.put_front-at.ensures.next c.put_front-at.ensures.written in
    let uid : take c.put-at.result c.put-at.new.to ≡ take c.put_u32-at.result c.put_u32-at.new.to ++ f.uid = rw c.as_bytes.ensures at c.put-at.ensures.written in
    let long : length c.put.new.to ≤ c.put.result = omega (arith, (room_of c).uid, ap (length {A = ℕ}) c.as_bytes.ensures) in
    let whole = sym (take_all c.put.result c.put.new.to long) ∙ c.put.ensures.written ∙ ap (λ (x : List ℕ). x ++ replicate 428 0) (uid ∙ ap (λ (x : List ℕ). x ++ f.uid) (c.put_u32-at.ensures.written ∙ ap (λ (x : List ℕ). x ++ big_bytes 4 0) front)) in
    c.seal.ensures ∙ two_behind 64 (concat (footer_front f)) (big_bytes 4 0) f.uid (replicate 428 0) c.put.new.to (length_front f (room_of c)) refl whole

pub returns-clause-bytes : goal.returns-clause-bytes
returns-clause-bytes c = bytes_are c

pub returns-clause-reads_back : goal.returns-clause-reads_back
returns-clause-reads_back c = λ good. rw (bytes_are c) (reads_back c.args.self.now good (room_of c))

pub returns-clause-keeps : goal.returns-clause-keeps
returns-clause-keeps c = λ old long fits is. rw (bytes_are c) (keeps c.args.self.now old (room_of c) long fits is)
