-- Sectors of bits as they are written, and the log of a disk once it is marked.
use Rattle.std.proofs.Common.{◌≡◌, ℕ, zero, suc, ◌+◌, ◌-◌, ◌*◌, ◌/◌, ◌<◌, ◌≤◌, Bool, true, false, List, [], ◌∷◌, length, take, drop, Option, Some, None, refl, sym, ap, subst, ◌∙◌, arith}
use Rattle.std.specs.Prelude.{IfSome}
use Rattle.std.specs.List.{list_all}
use Rattle.std.specs.Str.{bytes_eq}
use Rattle.std.proofs.lemmas.List.{drop-drop}
use Rattle.sm_base.specs.Numbers.{div_up}
use Rattle.common_laws.specs.Lists.{when}
use Rattle.common_laws.proofs.Bytes.{bytes_eq-same}
use Rattle.common_laws.proofs.Lists.{find-some}
use Rattle.sm_base.specs.declared.names.Name.{Name}
use Rattle.sm_disk.specs.Held.{Held, IsIn, Keeps, Puts, IsWhole, Reaches, Torn, Wrote, reads}
use Rattle.sm_disk.proofs.HeldLaws.{reads-wrote}
use Rattle.sm_disk.proofs.ReachesLaws.{Reaches-torn, Reaches-wider}
use Rattle.vg_meta.specs.Roomy.{table_alone}
use Rattle.vg_volumes.specs.Sites.{volume_of}
use Rattle.vg_volumes.specs.Stored.{Stays, WorksOn, held_in, stored}
use Rattle.vg_volumes.specs.declared.stores.Store.{Ghosts}
use Rattle.vg_volumes.proofs.CallLaws.{held_from}
use Rattle.vg_volumes.proofs.StoredLaws.{stays_then}
use Rattle.sm_disk.specs.Sectors.{sector}
use Rattle.sm_log.specs.Coded.{byte_of, packed, packed_sector}
use Rattle.sm_log.specs.Logs.{Log, bit, is_log_of, log_of, on_log, touched, pieces_touched}
use Rattle.sm_log.proofs.BitLaws.{marked-long}
use Rattle.sm_logs.specs.Held.{is_touched}
use Rattle.sm_cbt.specs.Marks.{IsMark, IsMarkPlace}

-- ---- bits as bytes

pub length-packed : (n : ℕ) (bits : List Bool) → length (packed n bits) ≡ n
unfolding packed
length-packed zero bits = refl
length-packed (suc n) bits = ap suc (length-packed n (drop 8 bits))

packed-drop : (m n t : ℕ) (bits : List Bool) → t ≡ m + n → drop m (packed t bits) ≡ packed n (drop (8 * m) bits)
unfolding packed
packed-drop zero n t bits e = let z : t ≡ n = omega arith in ap (λ (k : ℕ). packed k bits) z
packed-drop (suc m) n zero bits e = absurd (omega arith)
packed-drop (suc m) n (suc t) bits e =
    let z : 8 + 8 * m ≡ 8 * suc m = omega arith in
    packed-drop m n t (drop 8 bits) (omega arith) ∙ ap (packed n) (drop-drop (8 * m) 8 bits ∙ ap (λ (k : ℕ). drop k bits) z)

packed-take : (m t : ℕ) (bits : List Bool) → m ≤ t → take m (packed t bits) ≡ packed m bits
unfolding packed
packed-take zero t bits low = refl
packed-take (suc m) zero bits low = absurd (omega arith)
packed-take (suc m) (suc t) bits low = ap (λ (xs : List ℕ). byte_of bits ∷ xs) (packed-take m t (drop 8 bits) (omega arith))

-- a sector of several
pub sector-packed : (n i j : ℕ) (bits : List Bool) → j < n → sector (packed (512 * n) (drop (4096 * i) bits)) j ≡ packed_sector (i + j) bits
unfolding sector
sector-packed n i j bits below =
    let there : 4096 * i + 8 * (512 * j) ≡ 4096 * (i + j) = omega arith in
    ap (take 512) (packed-drop (512 * j) (512 * n - 512 * j) (512 * n) (drop (4096 * i) bits) (omega (arith, below)))
    ∙ packed-take 512 (512 * n - 512 * j) (drop (8 * (512 * j)) (drop (4096 * i) bits)) (omega (arith, below))
    ∙ ap (packed 512) (drop-drop (8 * (512 * j)) (4096 * i) bits ∙ ap (λ (k : ℕ). drop k bits) there)

-- ---- the sectors that are written

-- the sectors with these pieces are within the log
pub within_log : (pieces start count : ℕ) → 1 ≤ count → start + count ≤ 128 * pieces → (start + count - 1) / 524288 + 1 ≤ div_up pieces 4096
unfolding div_up
within_log pieces start count some within = omega (arith, some, within)

-- the bytes that are written, from the first of these sectors to the last
abbrev pub written : List Bool → ℕ → ℕ → List ℕ
written bits first last = packed (512 * (last - first + 1)) (drop (4096 * first) bits)

pub whole : (bits : List Bool) (first last pieces size : ℕ) → first ≤ last → last + 1 ≤ div_up pieces 4096 → 1 + div_up pieces 4096 ≤ size → IsWhole (1 + first) (length (written bits first last)) size
whole bits first last pieces size order low room =
    let long : length (written bits first last) ≡ 512 * (last - first + 1) = length-packed (512 * (last - first + 1)) (drop (4096 * first) bits) in
    record { some = omega (arith, long); whole = omega (arith, long); within = omega (arith, long, order, low, room) }

-- what is put there are the bits
pub put_is_mark : (bits : List Bool) (start count p : ℕ) (v : List ℕ) → 1 ≤ count
    → Puts (1 + start / 524288) (written bits (start / 524288) ((start + count - 1) / 524288)) p v → IsMark bits start count p v
put_is_mark bits start count p v some (here, value) =
    let first : ℕ = start / 524288 in
    let last : ℕ = (start + count - 1) / 524288 in
    let order : first ≤ last = omega (arith, some) in
    let long : length (written bits first last) ≡ 512 * (last - first + 1) = length-packed (512 * (last - first + 1)) (drop (4096 * first) bits) in
    let low : 1 + first ≤ p = here.0 in
    let high : 512 * p < 512 * (1 + first) + length (written bits first last) = here.1 in
    let at : first + (p - (1 + first)) ≡ p - 1 = omega (arith, low) in
    record {
      place = record { from = low; to = omega (arith, low, high, long, order) };
      value = value ∙ sector-packed (last - first + 1) first (p - (1 + first)) bits (omega (arith, low, high, long, order)) ∙ ap (λ (k : ℕ). packed_sector k bits) at;
    }

-- each place that has a bit of these pieces is one of those that are written
pub place_is_in : (bits : List Bool) (start count p : ℕ) → 1 ≤ count → IsMarkPlace start count p
    → IsIn (1 + start / 524288) (length (written bits (start / 524288) ((start + count - 1) / 524288))) p
place_is_in bits start count p some place =
    let first : ℕ = start / 524288 in
    let last : ℕ = (start + count - 1) / 524288 in
    let long : length (written bits first last) ≡ 512 * (last - first + 1) = length-packed (512 * (last - first + 1)) (drop (4096 * first) bits) in
    let low : 1 + first ≤ p = place.from in
    let high : p ≤ 1 + last = place.to in
    (low, omega (arith, low, high, long))

-- ---- the log of a disk once it is marked

found_case : (u : List ℕ) (f : Log → Log) (P : Log → Type 0) (x : Log) (logs : List Log) (b : Bool) → is_log_of u x ≡ b → ((l : Log) → (f l).disk ≡ l.disk)
    → (IfSome (log_of u logs) (λ l. P (f l)) → IfSome (log_of u (on_log u f logs)) P)
    → IfSome (log_of u (x ∷ logs)) (λ l. P (f l)) → IfSome (log_of u (when b f x ∷ on_log u f logs)) P
found_case u f P x logs true e keeps rest h =
    let here : is_log_of u (f x) ≡ true = ap (λ (v : List ℕ). bytes_eq v u) (keeps x) ∙ e in
    rw here (rw e at h)
found_case u f P x logs false e keeps rest h = rw e (rest (rw e at h))

-- what is so of a disk's log once it is changed is so of its log among the changed ones
pub found_on : (u : List ℕ) (f : Log → Log) (P : Log → Type 0) (logs : List Log) → ((l : Log) → (f l).disk ≡ l.disk)
    → IfSome (log_of u logs) (λ l. P (f l)) → IfSome (log_of u (on_log u f logs)) P
found_on u f P [] keeps h = tt
found_on u f P (x ∷ logs) keeps h = found_case u f P x logs (is_log_of u x) refl keeps (found_on u f P logs keeps) h

pub log_disk : (u : List ℕ) (logs : List Log) (l : Log) → log_of u logs ≡ Some l → l.disk ≡ u
log_disk u logs l e = bytes_eq-same l.disk u (find-some (is_log_of u) logs l e).1

pub touched_long : (start count : ℕ) (l : Log) → length (touched start count l).bits ≡ length l.bits
touched_long start count l = marked-long (pieces_touched start count) l.bits

pub some_more : (o : Option Log) (P Q : Log → Type 0) → ((l : Log) → P l → Q l) → IfSome o P → IfSome o Q
some_more None P Q more h = tt
some_more (Some l) P Q more h = more l h

-- what is so of the number of bits is so of the marked log's
pub marked_log : (u : List ℕ) (start count : ℕ) (logs new : List Log) (l : Log) (Q : ℕ → Type 0) → new ≡ on_log u (touched start count) logs → Some l ≡ log_of u new
    → IfSome (log_of u logs) (λ m. Q (length m.bits)) → Q (length l.bits)
marked_log u start count logs new l Q is found h =
    let there : IfSome (log_of u (on_log u (touched start count) logs)) (λ m. Q (length m.bits)) =
    found_on u (touched start count) (λ m. Q (length m.bits)) logs (λ m. refl)
    (some_more (log_of u logs) (λ m. Q (length m.bits)) (λ m. Q (length (touched start count m).bits)) (λ m q. subst Q (sym (touched_long start count m)) q) h) in
    subst (λ (o : Option Log). IfSome o (λ m. Q (length m.bits))) (ap (log_of u) (sym is) ∙ sym found) there

none_case : (u : List ℕ) (f : Log → Log) (x : Log) (logs : List Log) (b : Bool) → is_log_of u x ≡ b → ((l : Log) → (f l).disk ≡ l.disk)
    → (log_of u (on_log u f logs) ≡ None → log_of u logs ≡ None) → log_of u (when b f x ∷ on_log u f logs) ≡ None → log_of u (x ∷ logs) ≡ None
none_case u f x logs true e keeps rest h =
    let here : is_log_of u (f x) ≡ true = ap (λ (v : List ℕ). bytes_eq v u) (keeps x) ∙ e in
    let z : Some (f x) ≡ None = rw here at h in
    absurd cc
none_case u f x logs false e keeps rest h = rw e (rest (rw e at h))

none_on : (u : List ℕ) (f : Log → Log) (logs : List Log) → ((l : Log) → (f l).disk ≡ l.disk) → log_of u (on_log u f logs) ≡ None → log_of u logs ≡ None
none_on u f [] keeps h = refl
none_on u f (x ∷ logs) keeps h = none_case u f x logs (is_log_of u x) refl keeps (none_on u f logs keeps) h

-- a disk without a log needs no mark
pub untracked : (u : List ℕ) (start count : ℕ) (logs : List Log) → log_of u (on_log u (touched start count) logs) ≡ None → is_touched u start count logs ≡ true
untracked u start count logs none = ap (λ (o : Option Log). elim o as (λ _. Bool) [ None ↦ true | Some l ↦ list_all (bit l.bits) (pieces_touched start count) ]) (none_on u (touched start count) logs (λ l. refl) none)

-- ---- on a store

module _ {S : Type 0} {g : Ghosts S} where
  -- a write of the bits, failed or not
  pub put_marks : (n : Name) {a b : S} (bits : List Bool) (start count : ℕ) (from : List ℕ) → 1 ≤ count → Stays g a b → from ≡ written bits (start / 524288) ((start + count - 1) / 524288)
      → Torn (1 + start / 524288) from (volume_of (g.site a) (table_alone (g.table a)) (g.area a) n) (volume_of (g.site a) (table_alone (g.table a)) (g.area b) n)
      → Reaches (IsMark bits start count) (held_in (stored g a) n) (held_in (stored g b) n)
  put_marks n {a} {b} bits start count from some stays is torn =
      held_from n (λ (h : Held). Reaches (IsMark bits start count) (held_in (stored g a) n) h) stays
      (Reaches-wider (λ p v put. put_is_mark bits start count p v some (subst (λ (xs : List ℕ). Puts (1 + start / 524288) xs p v) is put)) (Reaches-torn torn))

  -- a write of the bits that succeeded
  pub put_reads : (n : Name) {a b : S} (bits : List Bool) (start count : ℕ) (from : List ℕ) → 1 ≤ count → Stays g a b → from ≡ written bits (start / 524288) ((start + count - 1) / 524288)
      → Wrote (1 + start / 524288) from (volume_of (g.site a) (table_alone (g.table a)) (g.area a) n) (volume_of (g.site a) (table_alone (g.table a)) (g.area b) n)
      → (p : ℕ) → IsMarkPlace start count p → reads (held_in (stored g b) n) p ≡ packed_sector (p - 1) bits
  put_reads n {a} {b} bits start count from some stays is wrote p place =
      let bytes : List ℕ = written bits (start / 524288) ((start + count - 1) / 524288) in
      let here : IsIn (1 + start / 524288) (length bytes) p = place_is_in bits start count p some place in
      let put = put_is_mark bits start count p (sector bytes (p - (1 + start / 524288))) some (here, refl) in
      held_from n (λ (h : Held). reads h p ≡ packed_sector (p - 1) bits) stays
      (reads-wrote wrote p (subst (λ (xs : List ℕ). IsIn (1 + start / 524288) (length xs) p) (sym is) here)
      ∙ ap (λ (xs : List ℕ). sector xs (p - (1 + start / 524288))) is ∙ put.value)

  -- a write of one volume, and a sync
  pub written_then : (n : Name) {a b c : S} → WorksOn g n a b → Stays g b c → (g.told → Keeps (g.area b) (g.area c)) → WorksOn g n a c
  written_then n w stays keeps = record {
    stays = stays_then w.stays stays;
    elsewhere = λ told. record {
      reads = λ p away. (keeps told).reads p ∙ (w.elsewhere told).reads p away;
      may = λ p v away m. (w.elsewhere told).may p v away ((keeps told).may p v m);
    };
  }
