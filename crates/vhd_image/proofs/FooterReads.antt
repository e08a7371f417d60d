-- A footer that was read passes the tests.
use Rattle.std.proofs.Common.{◌≡◌, ℕ, ◌-◌, List, [], ◌∷◌, Bool, true, false, cond, Option, Some, None, refl, sym, subst}
use Rattle.std.proofs.lemmas.Option.{none-some}
use Rattle.std.specs.Option.{option_or}
use Rattle.std.specs.Result.{result_ok}
use Rattle.vhd_fields.specs.declared.faults.FieldFault.{FieldFault}
use Rattle.vhd_fields.specs.declared.footers.Footer.{Footer}
use Rattle.vhd_fields.specs.declared.faults.FieldFault.TheVariants.{Cookie, Checksum, Version, Field}
use Rattle.std.specs.Prelude.{◌==◌, codes}
use Rattle.std.specs.Str.{bytes_eq}
use Rattle.vhd_fields.specs.Checksums.{checksum}
use Rattle.vhd_fields.specs.Fields.{bytes_at, number_at, version, first_fault, unless_fault}
use Rattle.vhd_fields.specs.Footers.{IsFooter, footer_read, footer_fault, footer_fields, footer_tests, is_data_offset, is_size, is_disk_type}
use Rattle.vhd_layout.specs.Layouts.{Sectors}
use Rattle.vhd_layout.specs.Images.{footer_at}

-- a test that passed, and the tests behind it
step : (t : Bool) (e : FieldFault) (rest : Option FieldFault) → cond t rest (Some e) ≡ None → (t ≡ true) × (rest ≡ None)
step true e rest none = (refl, none)
step false e rest none = absurd (none-some e (sym none))

read_of : (fault : Option FieldFault) (fields f : Footer) → result_ok (unless_fault fault fields) ≡ Some f → (fault ≡ None) × (fields ≡ f)
read_of None fields f is = (refl, cc)
read_of (Some e) fields f is = absurd (none-some f is)

-- of six tests the last three passed, where none failed
last_three : (a b c d e f : Bool) (u v w x y z : FieldFault) → first_fault ((a, u) ∷ (b, v) ∷ (c, w) ∷ (d, x) ∷ (e, y) ∷ (f, z) ∷ []) ≡ None → (d ≡ true) × (e ≡ true) × (f ≡ true)
last_three a b c d e f u v w x y z none =
    let r6 = cond f None (Some z) in
    let r5 = cond e r6 (Some y) in
    let r4 = cond d r5 (Some x) in
    let r3 = cond c r4 (Some w) in
    let r2 = cond b r3 (Some v) in
    let s1 = step a u r2 none in
    let s2 = step b v r3 s1.1 in
    let s3 = step c w r4 s2.1 in
    let s4 = step d x r5 s3.1 in
    let s5 = step e y r6 s4.1 in
    let s6 = step f z None s5.1 in
    (s4.0, s5.0, s6.0)

pub proper-read : (bytes : List ℕ) (f : Footer) → result_ok (footer_read bytes) ≡ Some f → IsFooter f
unfolding footer_tests footer_fields
proper-read bytes f is =
    let read = read_of (footer_fault bytes) (footer_fields bytes) f is in
    let passed = last_three (bytes_eq (bytes_at 0 8 bytes) (codes "conectix")) (number_at 64 4 bytes == checksum 64 bytes) (number_at 12 4 bytes == version)
    (is_data_offset (number_at 60 4 bytes) (number_at 16 8 bytes)) (is_size (number_at 48 8 bytes)) (is_disk_type (number_at 60 4 bytes)) Cookie Checksum Version (Field 16) (Field 48) (Field 60) read.0 in
    let found : IsFooter (footer_fields bytes) = record { data_offset = passed.0; size = passed.1; kind = passed.2 } in
    subst (λ (x : Footer). IsFooter x) read.1 found

pub proper-at : (n : ℕ) (v : Sectors) (f : Footer) → footer_at n v ≡ Some f → IsFooter f
unfolding footer_at
proper-at n v f is = by (result_ok (footer_read (v (n - 1)))) (λ g. proper-read (v (n - 1)) g) is
  where
    by : (o : Option Footer) → ((g : Footer) → o ≡ Some g → IsFooter g) → option_or o (result_ok (footer_read (v 0))) ≡ Some f → IsFooter f
    by None proper is = proper-read (v 0) f is
    by (Some g) proper is = proper f is
