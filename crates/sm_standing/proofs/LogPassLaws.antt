-- Where the check of logs passes: what it looks at is what the disks show and what a read of their logs gives.
use Rattle.std.proofs.Common.{◌≡◌, ◌≢◌, ℕ, ◌*◌, ◌≤◌, Bool, true, false, not, ◌&&◌, ◌==◌, List, [], ◌∷◌, length, map, Option, Some, None, is_some, refl, sym, ap, ap₂, subst, ◌∙◌, arith, IsSome, ◌<◌}
use Rattle.std.specs.Cmp.{IsTotalOrder}
use Rattle.std.specs.List.{filter, find, list_any}
use Rattle.std.specs.Ordering.{is_lt}
use Rattle.std.proofs.lemmas.Bool.{true≢false, and_from, eq-eqb, eqb-true, le-leb, lt-ltb}
use Rattle.std.proofs.lemmas.Cmp.{nat_list_cmp_total}
use Rattle.std.proofs.lemmas.List.{length-map}
use Rattle.common_laws.specs.Lists.{In, numbers, ◌>>=◌}
use Rattle.common_laws.proofs.Lists.{In-filter, find-some, list_any-find}
use Rattle.common_laws.proofs.Options.{is_some-parts}
use Rattle.sm_base.specs.Numbers.{div_up}
use Rattle.sm_base.specs.Names.{name_cmp}
use Rattle.sm_base.specs.declared.faults.Place.TheVariants as at
use Rattle.sm_base.specs.declared.names.Name.{Name}
use Rattle.sm_base.specs.declared.names.Name.TheVariants.{Mgt, Vhd, Raw, Old, Cbt, Clone, Inflate, Coalesce, Relink, Leaf}
use Rattle.sm_base.proofs.OrderLemmas.{name_cmp-itself}
use Rattle.sm_log.specs.Logs.{Log, log_sectors, piece_count}
use Rattle.sm_log.proofs.ByteLaws.{length-numbers}
use Rattle.sm_machine.specs.Disks.{Disk}
use Rattle.sm_machine.specs.Shapes.{Shape}
use Rattle.sm_machine.specs.Tracking.{AreGoodLogs, IsGoodLog}
use Rattle.sm_machine.specs.WellFormed.{AreDisksOf, IsWellFormed}
use Rattle.sm_machine.proofs.LogDisks.{IsOfDisk, log_disk}
use Rattle.sm_record.specs.declared.records.Record.{Record}
use Rattle.vg_meta.specs.Tables.{IsTable, Row, extents_of}
use Rattle.sm_standing.specs.Checks.{first_fault}
use Rattle.sm_standing.specs.Contents.{Content, is_record_of, record_of, records, row, size_of}
use Rattle.sm_standing.specs.Images.{Image, image_of, image_reads, sectors_read}
use Rattle.sm_standing.specs.LogChecks.{HasLogsOf, HaveOneTag, HasRightLog, IsLogLike, is_log_right, is_log_wrong, is_tag_met, is_wrong_log, log_fault, log_wrong_as, logs_before, pieces_in, standing_pieces}
use Rattle.sm_standing.specs.Logs.{log_at, logs}
use Rattle.sm_standing.specs.Outlines.{outline}
use Rattle.sm_standing.specs.Standing.{disk_in, disks, standing_volume}
use Rattle.sm_standing.proofs.DiskLists.{DiskParts, at_disks, disk_parts, disks_at}
use Rattle.sm_standing.proofs.DisksShown.{row_of-In}
use Rattle.sm_standing.proofs.FaultLaws.{named_none, none_named}
use Rattle.sm_standing.proofs.ForkLaws.{made_disk}
use Rattle.sm_standing.proofs.LogLaws.{HasPassed, HasVolume, IsListed, found_row, has_volume, in_list, listed, log_cmp, logs_rise, passed, right_logs}
use Rattle.sm_standing.proofs.Orders.{rising_ext}
use Rattle.sm_standing.proofs.OutlineLaws.{outline_records_same}
use Rattle.sm_standing.proofs.PlainKept.{sound_all}
use Rattle.sm_standing.proofs.RecordLists.{first_of, record_of_first}

-- the disk of a UUID has a volume
abbrev Stands : Content → List ℕ → Type 0
Stands c u = is_some (standing_volume c.table u) ≡ true

-- ---- disks and their pieces

read_pieces : (c : Content) (n : Name) → pieces_in (image_of c n) ≡ piece_count (length (sectors_read c n))
unfolding sectors_read div_up
read_pieces c n = by (image_of c n)
  where
    of : Option Image → List (List ℕ)
    of None = []
    of (Some i) = map (image_reads c n) (numbers 0 i.size)

    by : (o : Option Image) → pieces_in o ≡ piece_count (length (of o))
    by None = refl
    by (Some i) = ap piece_count (sym (length-map (numbers 0 i.size) (image_reads c n) ∙ length-numbers 0 i.size))

pub pieces_of : (c : Content) (d : Disk) → In d (disks c) → standing_pieces c d.uuid ≡ piece_count (length d.sectors)
unfolding standing_pieces
pieces_of c d h =
    let p : DiskParts c d.uuid d = disk_parts c d.uuid d (disks_at c d h) in
    ap (λ (o : Option Name). pieces_in (o >>= image_of c)) p.standing ∙ (read_pieces c p.name ∙ ap (λ (e : Disk). piece_count (length e.sectors)) (sym p.made))

pub stands_of : (c : Content) (d : Disk) → In d (disks c) → Stands c d.uuid
stands_of c d h = ap is_some (disk_parts c d.uuid d (disks_at c d h)).standing

first_there : (rs : List Record) → length rs ≡ 1 → (r : Record) × (first_of rs ≡ Some r)
first_there [] e = cc
first_there (r ∷ rs) e = (r, refl)

-- where no check fails each disk that stands shows
pub disk_of : (c : Content) (u : List ℕ) → first_fault c ≡ None → Stands c u → (d : Disk) × In d (disks c) × (d.uuid ≡ u)
disk_of c u sound s =
    let n = is_some-parts (standing_volume c.table u) s in
    let once : length (filter (is_record_of u) (records c)) ≡ 1 =
    ap (λ (rs : List Record). length (filter (is_record_of u) rs)) (sym (outline_records_same c)) ∙ (sound_all (outline c) sound).recorded u n.0 n.1 in
    let r = first_there (filter (is_record_of u) (records c)) once in
    let recorded : record_of c u ≡ Some r.0 = record_of_first c u ∙ r.1 in
    (disk_in c u r.0 n.0, at_disks c u (disk_in c u r.0 n.0) (made_disk c u n.0 r.0 n.1 recorded), refl)

-- ---- a log that is right

listed_at : (c : Content) (u : List ℕ) (l : Log) → log_at c u ≡ Some l → Stands c u → (l.disk ≡ u) × IsListed c l
listed_at c u l e s =
    let own : l.disk ≡ u = (has_volume c u l e).own in
    (own, record { here = ap (log_at c) own ∙ e; stands = subst (Stands c) (sym own) s })

-- what the check says of a volume
judged_by : (c : Content) (u : List ℕ) (r : Row) → r.name ≡ Cbt u → r.fresh ≡ false → Stands c u
    → is_wrong_log c r ≡ is_log_wrong (standing_pieces c u) (size_of c (Cbt u)) (logs_before c u) c.table.sequence (log_at c u)
judged_by c u r named full s =
    ap₂ (λ (b : Bool) (n : Name). not b && log_wrong_as c n) full named
    ∙ ap (λ (b : Bool). b && is_log_wrong (standing_pieces c u) (size_of c (Cbt u)) (logs_before c u) c.table.sequence (log_at c u)) s

pub right_at : (c : Content) → log_fault c ≡ None → (u : List ℕ) (r : Row) → In r c.table.volumes → r.name ≡ Cbt u → r.fresh ≡ false → Stands c u → HasRightLog c u (standing_pieces c u)
unfolding log_fault
right_at c none u r i named full s = by (log_at c u) refl
  where
    right : is_wrong_log c r ≡ false
    right = named_none at.Log (is_wrong_log c) c.table.volumes none r i

    by : (o : Option Log) → log_at c u ≡ o → HasRightLog c u (standing_pieces c u)
    by None e = absurd (true≢false (sym (judged_by c u r named full s ∙ ap (is_log_wrong (standing_pieces c u) (size_of c (Cbt u)) (logs_before c u) c.table.sequence) e) ∙ right))
    by (Some l) e =
        let k : (l.disk ≡ u) × IsListed c l = listed_at c u l e s in
        let p : HasPassed c l = passed c l none k.1 in
        record { log = l; here = e; pieces = p.right.pieces ∙ ap (standing_pieces c) k.0; room = p.right.room; tag = p.right.tag; since = p.right.since }

pub tags_apart : (c : Content) → IsTable c.count c.table → log_fault c ≡ None → HaveOneTag c
tags_apart c table none u v a b is_a is_b s t same tagged =
    let x = listed_at c u a is_a s in
    let y = listed_at c v b is_b t in
    let one : a ≡ b = (right_logs c table none).one_tag a b (in_list c u a is_a s) (in_list c v b is_b t) same tagged in
    sym x.0 ∙ (ap (λ (l : Log). l.disk) one ∙ y.0)

-- ---- where the check passes

module _ (c : Content) (one_tag : HaveOneTag c) where
  -- no log before that of a disk has its tag
  untaken : (u : List ℕ) (l : Log) → log_at c u ≡ Some l → Stands c u → is_tag_met (logs_before c u) l.tag ≡ false
  unfolding logs_before
  untaken u l e s = by (l.tag == 0) refl
    where
      met : (k : Log) → find (λ (x : Log). x.tag == l.tag) (logs_before c u) ≡ Some k → l.tag ≢ 0 → ⊥
      met k found tagged =
          let f = find-some (λ (x : Log). x.tag == l.tag) (logs_before c u) k found in
          let w = In-filter (λ (x : Log). is_lt (name_cmp (Cbt x.disk) (Cbt u))) (logs c) k f.0 in
          let q = listed c k w.0 in
          let same : k.tag ≡ l.tag = eqb-true k.tag l.tag f.1 in
          let one : k.disk ≡ u = one_tag k.disk u k l q.here e q.stands s same (λ z. tagged (sym same ∙ z)) in
          true≢false (sym (subst (λ (v : List ℕ). is_lt (name_cmp (Cbt v) (Cbt u)) ≡ true) one w.1) ∙ ap is_lt (name_cmp-itself (Cbt u)))

      none_met : (o : Option Log) → find (λ (x : Log). x.tag == l.tag) (logs_before c u) ≡ o → l.tag ≢ 0 → list_any (λ (x : Log). x.tag == l.tag) (logs_before c u) ≡ false
      none_met None found tagged = list_any-find (λ (x : Log). x.tag == l.tag) (logs_before c u) found
      none_met (Some k) found tagged = absurd (met k found tagged)

      by : (b : Bool) → (l.tag == 0) ≡ b → is_tag_met (logs_before c u) l.tag ≡ false
      by true zero = ap (λ (b : Bool). not b && list_any (λ (x : Log). x.tag == l.tag) (logs_before c u)) zero
      by false tagged =
          ap (λ (b : Bool). not b && list_any (λ (x : Log). x.tag == l.tag) (logs_before c u)) tagged
          ∙ none_met (find (λ (x : Log). x.tag == l.tag) (logs_before c u)) refl (λ z. true≢false (sym (eq-eqb l.tag 0 z) ∙ tagged))

  -- a right log is not wrong
  not_wrong : (u : List ℕ) → Stands c u → HasRightLog c u (standing_pieces c u) → is_log_wrong (standing_pieces c u) (size_of c (Cbt u)) (logs_before c u) c.table.sequence (log_at c u) ≡ false
  not_wrong u s w =
      let v : HasVolume c u w.log = has_volume c u w.log w.here in
      let size : size_of c (Cbt u) ≡ w.log.extents * c.extent = ap (λ (o : Option Row). length (extents_of o) * c.extent) v.there ∙ ap (λ k. k * c.extent) (sym v.long) in
      let room : log_sectors (standing_pieces c u) ≤ size_of c (Cbt u) = subst (λ (n : ℕ). log_sectors (standing_pieces c u) ≤ n) (sym size) (subst (λ (n : ℕ). log_sectors n ≤ w.log.extents * c.extent) w.pieces w.room) in
      let right : is_log_right (standing_pieces c u) (size_of c (Cbt u)) (logs_before c u) c.table.sequence w.log ≡ true =
      and_from _ _ (eq-eqb (length w.log.bits) (standing_pieces c u) w.pieces) (and_from _ _ (le-leb (log_sectors (standing_pieces c u)) (size_of c (Cbt u)) room)
      (and_from _ _ (lt-ltb w.log.tag c.table.sequence w.tag) (and_from _ _ (lt-ltb w.log.since c.table.sequence w.since) (ap not (untaken u w.log w.here s))))) in
      ap (is_log_wrong (standing_pieces c u) (size_of c (Cbt u)) (logs_before c u) c.table.sequence) w.here ∙ ap not right

  pub pass_by : ((u : List ℕ) (r : Row) → In r c.table.volumes → r.name ≡ Cbt u → r.fresh ≡ false → Stands c u → HasRightLog c u (standing_pieces c u)) → log_fault c ≡ None
  unfolding log_fault
  pass_by each = none_named at.Log (is_wrong_log c) c.table.volumes (λ r i. of r i r.fresh refl)
    where
      of_log : (u : List ℕ) (r : Row) → In r c.table.volumes → r.name ≡ Cbt u → r.fresh ≡ false → (b : Bool) → is_some (standing_volume c.table u) ≡ b → log_wrong_as c (Cbt u) ≡ false
      of_log u r i named full true s =
          ap (λ (b : Bool). b && is_log_wrong (standing_pieces c u) (size_of c (Cbt u)) (logs_before c u) c.table.sequence (log_at c u)) s ∙ not_wrong u s (each u r i named full s)
      of_log u r i named full false s = ap (λ (b : Bool). b && is_log_wrong (standing_pieces c u) (size_of c (Cbt u)) (logs_before c u) c.table.sequence (log_at c u)) s

      of_name : (n : Name) (r : Row) → In r c.table.volumes → r.name ≡ n → r.fresh ≡ false → log_wrong_as c n ≡ false
      of_name (Cbt u) r i named full = of_log u r i named full (is_some (standing_volume c.table u)) refl
      of_name Mgt r i named full = refl
      of_name (Vhd u) r i named full = refl
      of_name (Raw u) r i named full = refl
      of_name (Old u) r i named full = refl
      of_name (Clone d b w) r i named full = refl
      of_name (Inflate u k) r i named full = refl
      of_name (Coalesce v p) r i named full = refl
      of_name (Relink v p) r i named full = refl
      of_name (Leaf v p) r i named full = refl

      of : (r : Row) → In r c.table.volumes → (b : Bool) → r.fresh ≡ b → is_wrong_log c r ≡ false
      of r i true new = ap (λ (b : Bool). not b && log_wrong_as c r.name) new
      of r i false full = ap (λ (b : Bool). not b && log_wrong_as c r.name) full ∙ of_name r.name r i refl full

  -- disk by disk
  pub pass_by_disks : first_fault c ≡ None → ((d : Disk) (r : Row) → In d (disks c) → In r c.table.volumes → r.name ≡ Cbt d.uuid → r.fresh ≡ false → HasRightLog c d.uuid (piece_count (length d.sectors)))
      → log_fault c ≡ None
  pass_by_disks sound each = pass_by (λ u r i named full s. of u r i named full (disk_of c u sound s))
    where
      of : (u : List ℕ) (r : Row) → In r c.table.volumes → r.name ≡ Cbt u → r.fresh ≡ false → (d : Disk) × In d (disks c) × (d.uuid ≡ u) → HasRightLog c u (standing_pieces c u)
      of u r i named full k =
          let w : HasRightLog c k.0.uuid (standing_pieces c k.0.uuid) =
          subst (HasRightLog c k.0.uuid) (sym (pieces_of c k.0 k.1)) (each k.0 r k.1 i (named ∙ ap Cbt (sym k.2)) full) in
          subst (λ (v : List ℕ). HasRightLog c v (standing_pieces c v)) k.2 w

-- ---- logs like those of a shape

module _ (c : Content) (s : Shape) (was : List Disk) (sound : first_fault c ≡ None) (w : IsWellFormed s) (are : AreDisksOf was s) (good : AreGoodLogs s) (extent : c.extent ≡ s.extent) (later : s.sequence ≤ c.table.sequence)
    (there : (u : List ℕ) (r : Row) → In r c.table.volumes → r.name ≡ Cbt u → r.fresh ≡ false → IsSome (log_at c u))
    (like : (u : List ℕ) (l : Log) → log_at c u ≡ Some l → (m : Log) × In m s.logs × IsLogLike m l × (l.since < c.table.sequence))
    (seen : (d : Disk) (l : Log) → In d (disks c) → log_at c d.uuid ≡ Some l → (e : Disk) × In e was × (e.uuid ≡ d.uuid) × (length e.sectors ≡ length d.sectors)) where
  like_one_tag : HaveOneTag c
  like_one_tag u v a b is_a is_b s t same tagged =
      let x = like u a is_a in
      let y = like v b is_b in
      let one : x.0 ≡ y.0 = good.one_tag x.0 y.0 x.1 y.1 (sym x.2.tag ∙ (same ∙ y.2.tag)) (λ z. tagged (x.2.tag ∙ z)) in
      sym (has_volume c u a is_a).own ∙ (x.2.disk ∙ (ap (λ (l : Log). l.disk) one ∙ (sym y.2.disk ∙ (has_volume c v b is_b).own)))

  like_right : (d : Disk) (l : Log) → In d (disks c) → log_at c d.uuid ≡ Some l → HasRightLog c d.uuid (piece_count (length d.sectors))
  like_right d l i is =
      let x = like d.uuid l is in
      let e = seen d l i is in
      let g : IsGoodLog s x.0 = good.good x.0 x.1 in
      let own : e.0.uuid ≡ x.0.disk = e.2 ∙ (sym (has_volume c d.uuid l is).own ∙ x.2.disk) in
      let of : IsOfDisk e.0 x.0 = log_disk was s w are x.0 g e.0 e.1 own in
      record {
        log = l;
        here = is;
        pieces = x.2.pieces ∙ (of.pieces ∙ ap piece_count e.3);
        room = subst (λ (n : ℕ). log_sectors (length l.bits) ≤ l.extents * n) (sym extent)
            (subst (λ (n : ℕ). log_sectors (length l.bits) ≤ n * s.extent) (sym x.2.extents) (subst (λ (n : ℕ). log_sectors n ≤ x.0.extents * s.extent) (sym x.2.pieces) g.room));
        tag = omega (arith, x.2.tag, g.tag, later);
        since = x.3;
      }

  pub logs_pass : log_fault c ≡ None
  logs_pass = pass_by_disks c like_one_tag sound (λ d r i k named full. by d i (log_at c d.uuid) refl (there d.uuid r k named full))
    where
      by : (d : Disk) → In d (disks c) → (o : Option Log) → log_at c d.uuid ≡ o → IsSome o → HasRightLog c d.uuid (piece_count (length d.sectors))
      by d i None is some = absurd (true≢false (sym some))
      by d i (Some l) is some = like_right d l i is

-- ---- logs that stay

pub log_total : IsTotalOrder log_cmp
log_total = record {
  antisymm = λ x y. nat_list_cmp_total.antisymm x.disk y.disk;
  trans = λ x y z. nat_list_cmp_total.trans x.disk y.disk z.disk;
  congr = λ x y z. nat_list_cmp_total.congr x.disk y.disk z.disk;
}

module _ (was now : Content) (table_was : IsTable was.count was.table) (table_now : IsTable now.count now.table) (extent : now.extent ≡ was.extent) (has : HasLogsOf was now)
    (shown : disks now ≡ disks was) (sound_was : first_fault was ≡ None) (sound_now : first_fault now ≡ None) where
  stands_back : (u : List ℕ) → Stands now u → Stands was u
  stands_back u s = let d = disk_of now u sound_now s in subst (Stands was) d.2 (stands_of was d.0 (subst (λ (ds : List Disk). In d.0 ds) shown d.1))

  stands_still : (u : List ℕ) → Stands was u → Stands now u
  stands_still u s = let d = disk_of was u sound_was s in subst (Stands now) d.2 (stands_of now d.0 (subst (λ (ds : List Disk). In d.0 ds) (sym shown) d.1))

  pieces_same : (u : List ℕ) → Stands now u → standing_pieces now u ≡ standing_pieces was u
  pieces_same u s =
      let d = disk_of now u sound_now s in
      subst (λ (v : List ℕ). standing_pieces now v ≡ standing_pieces was v) d.2 (pieces_of now d.0 d.1 ∙ sym (pieces_of was d.0 (subst (λ (ds : List Disk). In d.0 ds) shown d.1)))

  pub logs_stay : logs now ≡ logs was
  logs_stay = rising_ext log_cmp log_total (logs now) (logs was) (logs_rise now table_now) (logs_rise was table_was)
      (λ l i. let w = listed now l i in in_list was l.disk l (sym (has.logs l.disk) ∙ w.here) (stands_back l.disk w.stands))
      (λ l i. let w = listed was l i in in_list now l.disk l (has.logs l.disk ∙ w.here) (stands_still l.disk w.stands))

  pub passes_still : log_fault was ≡ None → log_fault now ≡ None
  passes_still none = pass_by now
      (λ u v a b is_a is_b s t. tags_apart was table_was none u v a b (sym (has.logs u) ∙ is_a) (sym (has.logs v) ∙ is_b) (stands_back u s) (stands_back v t))
      right_now
    where
      right_now : (u : List ℕ) (r : Row) → In r now.table.volumes → r.name ≡ Cbt u → r.fresh ≡ false → Stands now u → HasRightLog now u (standing_pieces now u)
      right_now u r i named full s =
          let there : row was (Cbt u) ≡ Some r = sym (has.volumes u) ∙ (ap (row now) (sym named) ∙ found_row now.table.volumes table_now.volumes.rising r i) in
          let w : HasRightLog was u (standing_pieces was u) = right_at was none u r (row_of-In was.table.volumes (Cbt u) r there).0 named full (stands_back u s) in
          record {
            log = w.log;
            here = has.logs u ∙ w.here;
            pieces = w.pieces ∙ sym (pieces_same u s);
            room = subst (λ (e : ℕ). log_sectors (length w.log.bits) ≤ w.log.extents * e) (sym extent) w.room;
            tag = omega (arith, w.tag, has.sequence);
            since = omega (arith, w.since, has.sequence);
          }
