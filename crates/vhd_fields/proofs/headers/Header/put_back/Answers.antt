use Rattle.std.proofs.Common.{◌≡◌, ◌≤◌, ◌++◌, ℕ, List, length, take, replicate, sym, ap, ◌∙◌, arith}
use Rattle.std.proofs.lemmas.List.{take_all}
use Rattle.byteorder.specs.Endian.{big_bytes}
use Rattle.vhd_fields.specs.Headers.{header_back}
use Rattle.vhd_fields.specs.ParentNames.{parent_bytes}
use Rattle.vhd_fields.proofs.Joining.{five_behind}
use Rattle.vhd_fields.proofs.headers.Header.put_back.Goals as goal

pub returns : goal.returns
unfolding header_back
returns c =
    let h = c.args.self.now in
    let uid : take c.put-at.result c.put-at.new.to ≡ take 40 c.args.to.now ++ h.parent_uid = rw (c.requires, c.as_bytes.ensures) at c.put-at.ensures.written in
    let parent : take c.put-at-2.result c.put-at-2.new.to ≡ take c.put_u32-at-2.result c.put_u32-at-2.new.to ++ parent_bytes h.parent = rw c.field_of.ensures at c.put-at-2.ensures.written in
    let long : length c.put.new.to ≤ c.put.result = omega (arith, c.requires) in
    let zeros : List ℕ = replicate 448 0 in
    let whole = sym (take_all c.put.result c.put.new.to long) ∙ c.put.ensures.written ∙ ap (λ (x : List ℕ). x ++ zeros) (parent ∙ ap (λ (x : List ℕ). x ++ parent_bytes h.parent) (c.put_u32-at-2.ensures.written ∙ ap (λ (x : List ℕ). x ++ big_bytes 4 0) (c.put_u32-at.ensures.written ∙ ap (λ (x : List ℕ). x ++ big_bytes 4 h.parent_stamp) uid))) in
    whole ∙ five_behind (take 40 c.args.to.now) h.parent_uid (big_bytes 4 h.parent_stamp) (big_bytes 4 0) (parent_bytes h.parent) zeros
