use Rattle.std.proofs.Common.{◌≡◌, ◌-◌, ◌≤◌, [], ◌++◌, Some, length, take, drop, sum, refl, sym, ap, ◌∙◌, ◌+◌, arith, rules}
use Rattle.std.proofs.lemmas.List.{take_all, length-take-le, length-drop}
use Rattle.byteorder.specs.Endian.{big_bytes}
use Rattle.vhd_fields.specs.declared.headers.Header.{Header}
use Rattle.vhd_fields.specs.Fields.{bytes_at}
use Rattle.vhd_fields.specs.ParentNames.{parent_bytes}
use Rattle.vhd_image.specs.Bodies.{volume_name}
use Rattle.vhd_image.specs.Made.{stamp_of, uid_of}
use Rattle.vhd_image.proofs.LinkLaws.{link-is}
use Rattle.vhd_image.proofs.linking.link.Goals as goal

pub returns : goal.returns
returns c =
    let front = c.args.front.now in
    let parent = c.args.parent.now in
    let uid : c.new_header-header.result.parent_uid ≡ uid_of parent = ap (λ (h : Header). h.parent_uid) c.new_header-header.ensures in
    let stamp : c.new_header-header.result.parent_stamp ≡ stamp_of parent = ap (λ (h : Header). h.parent_stamp) c.new_header-header.ensures in
    let n = 4294967295 - (c.sum_of-5.result + (c.sum_of.result + c.sum_of-2.result + c.sum_of-3.result + c.sum_of-4.result + c.sum_of-6.result)) in
    let u1 : c.as_bytes.result.now ≡ uid_of parent = c.as_bytes.ensures ∙ uid in
    let u2 : c.as_bytes-2.result.now ≡ uid_of parent = c.as_bytes-2.ensures ∙ uid in
    let s1 : c.to_be_bytes-stamp.result ≡ big_bytes 4 (stamp_of parent) = c.to_be_bytes-stamp.ensures ∙ ap (big_bytes 4) stamp in
    let whole : take c.put.result c.put.new.to ≡ ((((([] ++ take 36 front) ++ big_bytes 4 n) ++ uid_of parent) ++ big_bytes 4 (stamp_of parent)) ++ bytes_at 60 4 front) ++ take 448 (parent_bytes (Some (volume_name parent))) = cc in
    let all : length c.put.new.to ≡ 512 = search rules in
    let name : length c.name_front-name.result ≡ 448 = search rules in
    let front_long : length front ≡ 512 = search rules in
    let uid_long : length c.as_bytes-2.result.now ≡ 16 = search rules in
    let stamp_long : length c.to_be_bytes-stamp.result ≡ 4 = search rules in
    let sum_long : length c.to_be_bytes.result ≡ 4 = search rules in
    let cut : length (take 36 front) ≡ 36 = length-take-le 36 front (omega (arith, front_long)) in
    let reserved : length (bytes_at 60 4 front) ≡ 4 = length-take-le 4 (drop 60 front) (omega (arith, front_long, length-drop 60 front)) in
    let long : length c.put.new.to ≤ c.put.result = omega (arith, all, name, uid_long, stamp_long, sum_long, cut, reserved, c.put-at.ensures.next, c.put-at-2.ensures.next, c.put-at-3.ensures.next, c.put-at-4.ensures.next, c.put-at-5.ensures.next, c.put.ensures.next) in
    link-is front c.args.back.now parent n c.sum_of.result c.sum_of-2.result c.sum_of-3.result c.sum_of-4.result c.sum_of-5.result c.sum_of-6.result c.put.new.to
    (c.sum_of.ensures.value ∙ ap sum u1) (c.sum_of-2.ensures.value ∙ ap sum s1) c.sum_of-3.ensures.value (c.sum_of-4.ensures.value ∙ ap sum c.name_front-name.ensures) c.sum_of-5.ensures.value c.sum_of-6.ensures.value refl
    (sym (take_all c.put.result c.put.new.to long) ∙ whole)
