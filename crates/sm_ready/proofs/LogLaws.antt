-- Logs stand on the device while their volumes keep what they hold: behind a write elsewhere, behind a commit of another volume's row,
-- and in whatever a stop leaves.
use Rattle.std.proofs.Common.{◌≡◌, ◌≢◌, ℕ, ◌+◌, ◌*◌, ◌/◌, ◌%◌, ◌<◌, ◌≤◌, inl, inr, Bool, true, false, cond, List, [], ◌∷◌, length, map, Option, Some, None, refl, sym, ap, ap₂, ◌∙◌, subst, arith}
use Rattle.std.specs.Prelude.{IsSome}
use Rattle.std.proofs.lemmas.List.{length-map}
use Rattle.std.proofs.lemmas.Option.{none-some, same_Some}
use Rattle.common_laws.specs.Lists.{In, numbers, ◌>>=◌}
use Rattle.common_laws.proofs.Lists.{In-numbers}
use Rattle.sm_base.specs.declared.names.Name.{Name}
use Rattle.sm_base.specs.declared.names.Name.TheVariants.{Cbt}
use Rattle.sm_base.specs.Numbers.{div_up}
use Rattle.sm_disk.specs.Held.{Held, Keeps, reads}
use Rattle.sm_log.specs.Heads.{head_in}
use Rattle.sm_log.specs.Logs.{Log, log_of, log_sectors}
use Rattle.sm_log.specs.declared.heads.Head.{Head}
use Rattle.sm_standing.specs.Contents.{Content, row, sectors_of}
use Rattle.sm_standing.specs.Logs.{IsLogOf, IsLogged, bit_in, log_at, log_in, log_read}
use Rattle.sm_standing.proofs.WorldLaws.{commit_before}
use Rattle.vg_meta.specs.Tables.{IsTable, Row, VolumeTable, extents_of, rows}
use Rattle.vg_volumes.specs.Commits.{IsBefore, IsEither}
use Rattle.vg_volumes.specs.Sites.{Site, area_size, size_of, volume_of}
use Rattle.vg_volumes.specs.Volumes.{piece}
use Rattle.vhd_map.specs.Bitmaps.{is_set}
use Rattle.vhd_volumes.specs.Steady.{IsQuiet}
use Rattle.sm_ready.specs.Done.{at_rest}
use Rattle.sm_ready.specs.Known.{Face, Known, log_face, row_face}
use Rattle.sm_ready.specs.Orderly.{HasLogRoom, IsOrderly}
use Rattle.sm_ready.specs.Ready.{IsReady}
use Rattle.sm_ready.specs.Stores.{content_in, content_now}
use Rattle.sm_ready.proofs.LeftLaws.{IsLeft, now_sector, quiet_sector, size_there}
use Rattle.sm_ready.proofs.LogRows.{log_in_list}
use Rattle.sm_ready.proofs.Orders.{filled_face, fresh_face}
use Rattle.sm_ready.proofs.RowLaws.{found_in}
use Rattle.sm_ready.proofs.WrittenLaws.{length-numbers}

-- a table and an area have these logs, and in none of their volumes anything is pending
pub record HoldsLogs (s : Site) (t : VolumeTable) (area : Held) (ls : List Log) : Type 0 where
  pub table : IsTable s.count t
  pub faces : (u : List ℕ) → row_face (rows t (Cbt u)) ≡ log_face (log_of u ls)
  pub room : (l : Log) → In l ls → HasLogRoom s.geometry.extent l
  pub logs : IsLogged (content_now s t area) ls
  pub quiet : (u : List ℕ) → IsQuiet (volume_of s t area (Cbt u))

pub holds_ready : (s : Site) (t : VolumeTable) (area : Held) (m : Known) → IsOrderly s t m → IsReady s t area m → HoldsLogs s t area m.logs
holds_ready s t area m o ready = record { table = o.table; faces = o.logs; room = o.log_room; logs = ready.logs; quiet = ready.logged }

-- ---- what the volume of a log spells

-- a volume of a log that is not new is that of one of these
pub there_of : (count : ℕ) (v : VolumeTable) → IsTable count v → (u : List ℕ) (o : Option Log) → row_face (rows v (Cbt u)) ≡ log_face o → (r : Row) → In r v.volumes → r.name ≡ Cbt u → r.fresh ≡ false → IsSome o
there_of count v table u (Some l) face r i named full = refl
there_of count v table u None face r i named full =
    let found : rows v (Cbt u) ≡ Some r = ap (rows v) (sym named) ∙ found_in v.volumes table.volumes.rising r i in
    absurd (none-some (record { hidden = r.hidden; extents = length r.extents }) (sym face ∙ ap row_face found ∙ filled_face r full))

pub none_here : (c : Content) (u : List ℕ) → row c (Cbt u) ≡ None → log_at c u ≡ None
unfolding log_at
none_here c u is = ap (λ (o : Option Row). o >>= (λ r. log_in c u r)) is

pub none_yet : (c : Content) (u : List ℕ) (r : Row) → row c (Cbt u) ≡ Some r → r.fresh ≡ true → log_at c u ≡ None
unfolding log_at
none_yet c u r is new = ap (λ (o : Option Row). o >>= (λ r. log_in c u r)) is ∙ ap (λ b. cond b None (log_read u (length r.extents) (sectors_of c (Cbt u)))) new

pub spelled_here : (c : Content) (u : List ℕ) (r : Row) → row c (Cbt u) ≡ Some r → r.fresh ≡ false → log_at c u ≡ log_read u (length r.extents) (sectors_of c (Cbt u))
unfolding log_at
spelled_here c u r is full = ap (λ (o : Option Row). o >>= (λ r. log_in c u r)) is ∙ ap (λ b. cond b None (log_read u (length r.extents) (sectors_of c (Cbt u)))) full

-- a piece's bit stands in one of the sectors of a log with so many pieces
bit_within : (pieces k : ℕ) → k < pieces → 1 + k / 4096 < log_sectors pieces
unfolding div_up
bit_within pieces k below = omega (arith, below)

map_alike : {A B : Type 0} (f g : A → B) (xs : List A) → ((x : A) → In x xs → g x ≡ f x) → map g xs ≡ map f xs
map_alike f g [] same = refl
map_alike f g (x ∷ xs) same = ap₂ (λ y ys. y ∷ ys) (same x (inl refl)) (map_alike f g xs (λ y i. same y (inr i)))

bits_same : (ks : List ℕ) (f g : ℕ → List ℕ) → ((k : ℕ) → In k ks → g (1 + k / 4096) ≡ f (1 + k / 4096)) → map (bit_in g) ks ≡ map (bit_in f) ks
bits_same ks f g same = map_alike (bit_in f) (bit_in g) ks (λ k i. ap (λ (sector : List ℕ). is_set sector (k % 4096)) (same k i))

-- the same sectors spell the same log
read_same : (u : List ℕ) (n : ℕ) (f g : ℕ → List ℕ) (l : Log) → log_read u n f ≡ Some l → ((p : ℕ) → p < log_sectors (length l.bits) → g p ≡ f p) → log_read u n g ≡ Some l
unfolding log_read
read_same u n f g l e same = by (head_in (f 0)) refl e
  where
    read : Head → (ℕ → List ℕ) → Log
    read h v = record { disk = u; extents = n; tag = h.tag; since = h.since; bits = map (bit_in v) (numbers 0 h.pieces) }

    by : (x : Option Head) → head_in (f 0) ≡ x → (x >>= (λ h. Some (read h f))) ≡ Some l → (head_in (g 0) >>= (λ h. Some (read h g))) ≡ Some l
    by None is found = absurd (none-some l found)
    by (Some h) is found =
        let long : length l.bits ≡ h.pieces = ap (λ (x : Log). length x.bits) (sym (same_Some (read h f) l found)) ∙ length-map (numbers 0 h.pieces) (bit_in f) ∙ length-numbers 0 h.pieces in
        ap (λ (o : Option Head). o >>= (λ h. Some (read h g))) (ap head_in (same 0 (omega arith)) ∙ is)
        ∙ ap (λ (bs : List Bool). Some (record (read h f) { bits = bs }))
        (bits_same (numbers 0 h.pieces) f g (λ k i. same (1 + k / 4096) (subst (λ pieces. 1 + k / 4096 < log_sectors pieces) (sym long) (bit_within h.pieces k (omega (arith, (In-numbers 0 h.pieces k i).1))))))
        ∙ found

-- ---- whatever keeps the volumes of logs keeps the logs

module _ {s : Site} {t : VolumeTable} {area : Held} {ls : List Log} (h : HoldsLogs s t area ls) where
  -- the log of one disk, whose volume has the same row in another table and the same sectors
  pub logged_one : (v : VolumeTable) → IsTable s.count v → (f : ℕ → List ℕ) (u : List ℕ) → rows v (Cbt u) ≡ rows t (Cbt u)
      → ((p : ℕ) → p < size_of s t (Cbt u) → sectors_of (content_in s v f) (Cbt u) p ≡ sectors_of (content_now s t area) (Cbt u) p) → IsLogOf (content_in s v f) u (log_of u ls)
  logged_one v table f u same sectors = record {
    read = by (log_of u ls) refl (rows t (Cbt u)) refl (h.faces u);
    there = there_of s.count v table u (log_of u ls) (ap row_face same ∙ h.faces u);
  }
    where
      of_row : (l : Log) (r : Row) → log_of u ls ≡ Some l → rows t (Cbt u) ≡ Some r → (b : Bool) → r.fresh ≡ b → row_face (Some r) ≡ log_face (Some l) → log_at (content_in s v f) u ≡ Some l
      of_row l r found is true new face = absurd (none-some (record { hidden = false; extents = l.extents }) (sym (fresh_face r new) ∙ face))
      of_row l r found is false full face =
          let long : length r.extents ≡ l.extents = ap (λ (x : Face). x.extents) (same_Some _ _ (sym (filled_face r full) ∙ face)) in
          let size : size_of s t (Cbt u) ≡ l.extents * s.geometry.extent = size_there s t (Cbt u) r is ∙ ap (λ k. k * s.geometry.extent) long in
          let room : log_sectors (length l.bits) ≤ l.extents * s.geometry.extent = h.room l (log_in_list ls u l found).0 in
          spelled_here (content_in s v f) u r (same ∙ is) full
          ∙ read_same u (length r.extents) (sectors_of (content_now s t area) (Cbt u)) (sectors_of (content_in s v f) (Cbt u)) l
          (sym (spelled_here (content_now s t area) u r is full) ∙ (h.logs u).read ∙ found) (λ p below. sectors p (omega (arith, below, room, size)))

      no_log : (r : Row) → rows t (Cbt u) ≡ Some r → (b : Bool) → r.fresh ≡ b → row_face (Some r) ≡ None → log_at (content_in s v f) u ≡ None
      no_log r is true new face = none_yet (content_in s v f) u r (same ∙ is) new
      no_log r is false full face = absurd (none-some (record { hidden = r.hidden; extents = length r.extents }) (sym face ∙ filled_face r full))

      by : (x : Option Log) → log_of u ls ≡ x → (y : Option Row) → rows t (Cbt u) ≡ y → row_face y ≡ log_face x → log_at (content_in s v f) u ≡ x
      by None found None is face = none_here (content_in s v f) u (same ∙ is)
      by None found (Some r) is face = no_log r is r.fresh refl face
      by (Some l) found None is face = absurd (none-some (record { hidden = false; extents = l.extents }) face)
      by (Some l) found (Some r) is face = of_row l r found is r.fresh refl face

  -- another table with the same rows of logs, and sectors that are the same in their volumes
  pub logged_as : (v : VolumeTable) → IsTable s.count v → (f : ℕ → List ℕ) → ((u : List ℕ) → rows v (Cbt u) ≡ rows t (Cbt u))
      → ((u : List ℕ) (p : ℕ) → p < size_of s t (Cbt u) → sectors_of (content_in s v f) (Cbt u) p ≡ sectors_of (content_now s t area) (Cbt u) p) → IsLogged (content_in s v f) ls
  logged_as v table f same sectors u = logged_one v table f u (same u) (sectors u)

  -- what a stop leaves, while the table stands
  pub logged_left : IsTable s.count t → (image : ℕ → List ℕ) → IsLeft s area image → IsLogged (content_in s t image) ls
  logged_left table image left =
      logged_as t table image (λ u. refl) (λ u p below. quiet_sector s t area image (Cbt u)
      (λ q under. commit_before (content_now s t area) area t image table (omega (arith, s.geometry.in_range.extent_least)) (record { table_is = refl; sectors = left }) (Cbt u) q under) (h.quiet u) p below)

  pub logged_before : IsTable s.count t → (v : VolumeTable) (image : ℕ → List ℕ) → IsBefore (area_size s) t area v image → IsLogged (content_in s v image) ls
  logged_before table v image at = subst (λ l. IsLogged (content_in s l image) ls) (sym at.table_is) (logged_left table image at.sectors)

  -- sectors that differ from such as a stop leaves in another volume alone
  pub logged_beside : IsTable s.count t → (x : Name) (image earlier : ℕ → List ℕ) → ((u : List ℕ) → Cbt u ≢ x) → IsLeft s area earlier
      → ((n : Name) → n ≢ x → (p : ℕ) → p < size_of s t n → sectors_of (content_in s t image) n p ≡ sectors_of (content_in s t earlier) n p) → IsLogged (content_in s t image) ls
  logged_beside table x image earlier apart left others =
      logged_as t table image (λ u. refl) (λ u p below. others (Cbt u) (apart u) p below ∙ quiet_sector s t area earlier (Cbt u)
      (λ q under. commit_before (content_now s t area) area t earlier table (omega (arith, s.geometry.in_range.extent_least)) (record { table_is = refl; sectors = left }) (Cbt u) q under) (h.quiet u) p below)

  -- their volumes keep what they hold
  pub holds_keeps : (new : Held) → ((u : List ℕ) → Keeps (volume_of s t area (Cbt u)) (volume_of s t new (Cbt u))) → HoldsLogs s t new ls
  holds_keeps new keeps = record {
    table = h.table;
    faces = h.faces;
    room = h.room;
    logs = logged_as t h.table (reads new) (λ u. refl) (λ u p below. now_sector s t new (Cbt u) p below ∙ (keeps u).reads p ∙ sym (now_sector s t area (Cbt u) p below));
    quiet = λ u p v may. h.quiet u p v ((keeps u).may p v may) ∙ sym ((keeps u).reads p);
  }

  -- a commit to another table with the same rows of logs, behind which nothing is pending
  pub holds_commit : (v : VolumeTable) → IsTable s.count v → ((u : List ℕ) → rows v (Cbt u) ≡ rows t (Cbt u)) → ((u : List ℕ) → IsQuiet (volume_of s v (at_rest (reads area)) (Cbt u))) → HoldsLogs s v (at_rest (reads area)) ls
  unfolding sectors_of
  holds_commit v table same quiet = record {
    table = table;
    faces = λ u. ap row_face (same u) ∙ h.faces u;
    room = h.room;
    logs = logged_as v table (reads (at_rest (reads area))) same (λ u p below. ap (λ q. piece s.geometry.extent (extents_of q) (reads area) p) (same u));
    quiet = quiet;
  }

-- whatever a commit leaves that keeps the logs
pub logged_either : {s : Site} {t u : VolumeTable} {old : Held} {ls : List Log} → HoldsLogs s t old ls → HoldsLogs s u (at_rest (reads old)) ls → IsTable s.count t → IsTable s.count u
    → (v : VolumeTable) (image : ℕ → List ℕ) → IsEither (area_size s) t u old v image → IsLogged (content_in s v image) ls
logged_either {s} {t} {u} {old} {ls} before after table next v image either = by either
  where
    by : IsEither (area_size s) t u old v image → IsLogged (content_in s v image) ls
    by (inl at) = logged_before before table v image at
    by (inr at) = subst (λ l. IsLogged (content_in s l image) ls) (sym at.table_is) (logged_left after next image (λ p below. inl (at.sectors p below)))

-- a table without volumes of logs has none
pub logged_none : (s : Site) (t : VolumeTable) (area : Held) → IsTable s.count t → ((u : List ℕ) → row_face (rows t (Cbt u)) ≡ None) → IsLogged (content_now s t area) []
logged_none s t area table none u = record { read = by (rows t (Cbt u)) refl (none u); there = there_of s.count t table u None (none u) }
  where
    of_row : (r : Row) → rows t (Cbt u) ≡ Some r → (b : Bool) → r.fresh ≡ b → row_face (Some r) ≡ None → log_at (content_now s t area) u ≡ None
    of_row r is true new face = none_yet (content_now s t area) u r is new
    of_row r is false full face = absurd (none-some (record { hidden = r.hidden; extents = length r.extents }) (sym face ∙ filled_face r full))

    by : (x : Option Row) → rows t (Cbt u) ≡ x → row_face x ≡ None → log_at (content_now s t area) u ≡ None
    by None is face = none_here (content_now s t area) u is
    by (Some r) is face = of_row r is r.fresh refl face
