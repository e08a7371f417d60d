use Rattle.std.proofs.Common.{◌≡◌, ◌++◌, ℕ, codes, decimal, length, arith, ap, sym, ◌∙◌}
use Rattle.std.proofs.lemmas.Fmt.{length-decimal-le}
use Rattle.sm_base.specs.declared.names.Name.{Name}
use Rattle.sm_base.specs.declared.names.Name.TheVariants.{Mgt, Vhd, Raw, Old, Cbt, Clone, Inflate, Coalesce, Relink, Leaf}
use Rattle.sm_base.specs.Names.{uuid_text, spelling}
use Rattle.sm_base.proofs.TextLemmas.{placed-behind}
use Rattle.sm_base.proofs.NameLemmas.{spelled, length_of, length-spelling}
use Rattle.sm_base.proofs.names.Name.spell.Goals as goal

-- the length of a name that is another
same_length : (n m : Name) (size : ℕ) → n ≡ m → size ≡ length_of m → size ≡ length (spelling n)
same_length n m size same e = e ∙ sym (length-spelling m) ∙ ap (λ (k : Name). length (spelling k)) (sym same)

pub returns-in-Mgt-clause-text : goal.returns-in-Mgt-clause-text
unfolding spelling
returns-in-Mgt-clause-text c = spelled c.args.self.now Mgt c.args.to.now c.put.new.to c.in-Mgt.is c.put.ensures.written

pub returns-in-Mgt-clause-length : goal.returns-in-Mgt-clause-length
returns-in-Mgt-clause-length c = same_length c.args.self.now Mgt c.put.result c.in-Mgt.is c.put.ensures.end

pub returns-in-Vhd-clause-text : goal.returns-in-Vhd-clause-text
unfolding spelling
returns-in-Vhd-clause-text c =
    spelled c.args.self.now (Vhd c.in-Vhd.uuid) c.args.to.now c.put_uuid.new.to c.in-Vhd.is c.put_uuid.ensures.written

pub returns-in-Vhd-clause-length : goal.returns-in-Vhd-clause-length
returns-in-Vhd-clause-length c = same_length c.args.self.now (Vhd c.in-Vhd.uuid) c.put_uuid.result c.in-Vhd.is (omega (arith, c.put_uuid.ensures.end))

pub returns-in-Raw-clause-text : goal.returns-in-Raw-clause-text
unfolding spelling
returns-in-Raw-clause-text c =
    spelled c.args.self.now (Raw c.in-Raw.uuid) c.args.to.now c.put_uuid-in-Raw.new.to c.in-Raw.is c.put_uuid-in-Raw.ensures.written

pub returns-in-Raw-clause-length : goal.returns-in-Raw-clause-length
returns-in-Raw-clause-length c = same_length c.args.self.now (Raw c.in-Raw.uuid) c.put_uuid-in-Raw.result c.in-Raw.is (omega (arith, c.put_uuid-in-Raw.ensures.end))

pub returns-in-Old-clause-text : goal.returns-in-Old-clause-text
unfolding spelling
returns-in-Old-clause-text c =
    spelled c.args.self.now (Old c.in-Old.uuid) c.args.to.now c.put_uuid-in-Old.new.to c.in-Old.is c.put_uuid-in-Old.ensures.written

pub returns-in-Old-clause-length : goal.returns-in-Old-clause-length
returns-in-Old-clause-length c = same_length c.args.self.now (Old c.in-Old.uuid) c.put_uuid-in-Old.result c.in-Old.is (omega (arith, c.put_uuid-in-Old.ensures.end))

pub returns-in-Cbt-clause-text : goal.returns-in-Cbt-clause-text
unfolding spelling
returns-in-Cbt-clause-text c =
    spelled c.args.self.now (Cbt c.in-Cbt.uuid) c.args.to.now c.put_uuid-in-Cbt.new.to c.in-Cbt.is c.put_uuid-in-Cbt.ensures.written

pub returns-in-Cbt-clause-length : goal.returns-in-Cbt-clause-length
returns-in-Cbt-clause-length c = same_length c.args.self.now (Cbt c.in-Cbt.uuid) c.put_uuid-in-Cbt.result c.in-Cbt.is (omega (arith, c.put_uuid-in-Cbt.ensures.end))

pub returns-in-Clone-clause-text : goal.returns-in-Clone-clause-text
unfolding spelling
returns-in-Clone-clause-text c =
    let k = c.in-Clone in
    let disk = c.put_uuid-disk_end in
    let base = c.put_uuid-base_end in
    let last = c.put_uuid-in-Clone in
    let twin = codes "_" ++ uuid_text k.twin in
    let pair = placed-behind disk.result (codes "_") k.base twin disk.new.to base.new.to last.new.to base.result
    (omega arith) base.ensures.written base.ensures.end last.ensures.written in
    spelled c.args.self.now (Clone k.disk k.base k.twin) c.args.to.now last.new.to k.is
    (placed-behind 0 (codes "clone_") k.disk (codes "_" ++ (uuid_text k.base ++ twin)) c.args.to.now disk.new.to last.new.to disk.result
    (omega arith) disk.ensures.written disk.ensures.end pair)

pub returns-in-Clone-clause-length : goal.returns-in-Clone-clause-length
returns-in-Clone-clause-length c =
    let k = c.in-Clone in
    same_length c.args.self.now (Clone k.disk k.base k.twin) c.put_uuid-in-Clone.result k.is
    (omega (arith, c.put_uuid-in-Clone.ensures.end, c.put_uuid-base_end.ensures.end, c.put_uuid-disk_end.ensures.end))

pub returns-in-Inflate-clause-text : goal.returns-in-Inflate-clause-text
unfolding spelling
returns-in-Inflate-clause-text c =
    let k = c.in-Inflate in
    let image = c.put_uuid-image_end in
    spelled c.args.self.now (Inflate k.image k.extents) c.args.to.now c.put_decimal.new.to k.is
    (placed-behind 0 (codes "inflate_") k.image (codes "_" ++ decimal k.extents) c.args.to.now image.new.to c.put_decimal.new.to image.result
    (omega arith) image.ensures.written image.ensures.end c.put_decimal.ensures.written)

pub returns-in-Inflate-clause-length : goal.returns-in-Inflate-clause-length
returns-in-Inflate-clause-length c =
    let k = c.in-Inflate in
    same_length c.args.self.now (Inflate k.image k.extents) c.put_decimal.result k.is
    (omega (arith, c.put_decimal.ensures.end, c.put_uuid-image_end.ensures.end))

pub returns-in-Inflate-clause-most : goal.returns-in-Inflate-clause-most
returns-in-Inflate-clause-most c =
    let k = c.in-Inflate in
    omega (arith, c.put_decimal.ensures.end, c.put_uuid-image_end.ensures.end, length-decimal-le 10 k.extents (omega arith) (omega arith) (omega arith))

pub returns-in-Coalesce-clause-text : goal.returns-in-Coalesce-clause-text
unfolding spelling
returns-in-Coalesce-clause-text c =
    let k = c.in-Coalesce in
    let first = c.put_uuid-child_end in
    let last = c.put_uuid-in-Coalesce in
    spelled c.args.self.now (Coalesce k.child k.parent) c.args.to.now last.new.to k.is
    (placed-behind 0 (codes "coalesce_") k.child (codes "_" ++ uuid_text k.parent) c.args.to.now first.new.to last.new.to first.result
    (omega arith) first.ensures.written first.ensures.end last.ensures.written)

pub returns-in-Coalesce-clause-length : goal.returns-in-Coalesce-clause-length
returns-in-Coalesce-clause-length c =
    let k = c.in-Coalesce in
    same_length c.args.self.now (Coalesce k.child k.parent) c.put_uuid-in-Coalesce.result k.is
    (omega (arith, c.put_uuid-in-Coalesce.ensures.end, c.put_uuid-child_end.ensures.end))

pub returns-in-Relink-clause-text : goal.returns-in-Relink-clause-text
unfolding spelling
returns-in-Relink-clause-text c =
    let k = c.in-Relink in
    let first = c.put_uuid-child_end-in-Relink in
    let last = c.put_uuid-in-Relink in
    spelled c.args.self.now (Relink k.child k.parent) c.args.to.now last.new.to k.is
    (placed-behind 0 (codes "relink_") k.child (codes "_" ++ uuid_text k.parent) c.args.to.now first.new.to last.new.to first.result
    (omega arith) first.ensures.written first.ensures.end last.ensures.written)

pub returns-in-Relink-clause-length : goal.returns-in-Relink-clause-length
returns-in-Relink-clause-length c =
    let k = c.in-Relink in
    same_length c.args.self.now (Relink k.child k.parent) c.put_uuid-in-Relink.result k.is
    (omega (arith, c.put_uuid-in-Relink.ensures.end, c.put_uuid-child_end-in-Relink.ensures.end))

pub returns-in-Leaf-clause-text : goal.returns-in-Leaf-clause-text
unfolding spelling
returns-in-Leaf-clause-text c =
    let k = c.in-Leaf in
    let first = c.put_uuid-leaf_end in
    let last = c.put_uuid-in-Leaf in
    spelled c.args.self.now (Leaf k.leaf k.parent) c.args.to.now last.new.to k.is
    (placed-behind 0 (codes "leaf_") k.leaf (codes "_" ++ uuid_text k.parent) c.args.to.now first.new.to last.new.to first.result
    (omega arith) first.ensures.written first.ensures.end last.ensures.written)

pub returns-in-Leaf-clause-length : goal.returns-in-Leaf-clause-length
returns-in-Leaf-clause-length c =
    let k = c.in-Leaf in
    same_length c.args.self.now (Leaf k.leaf k.parent) c.put_uuid-in-Leaf.result k.is
    (omega (arith, c.put_uuid-in-Leaf.ensures.end, c.put_uuid-leaf_end.ensures.end))
