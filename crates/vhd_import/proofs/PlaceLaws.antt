-- The table of a dynamic file, as far as it was read.
use Rattle.std.proofs.Common.{◌≡◌, ◌⊎◌, inl, inr, ⊎_elim, ℕ, zero, suc, ◌+◌, ◌-◌, ◌*◌, ◌<◌, ◌≤◌, Bool, true, false, List, [], ◌++◌, length, length-append, Option, Some, None, refl, sym, ap, ◌∙◌, arith, subst, append_assoc}
use Rattle.std.specs.Prelude.{All, IsPermutation, min, nat_lt}
use Rattle.std.specs.List.{concat, cons_option}
use Rattle.std.proofs.lemmas.Bool.{cases_lt}
use Rattle.std.proofs.lemmas.List.{append-nil}
use Rattle.std.proofs.lemmas.List.Elements.{All-append}
use Rattle.std.proofs.lemmas.List.Folds.{concat-append}
use Rattle.sm_base.specs.Numbers.{div_up}
use Rattle.sm_base.specs.declared.refusals.Refusal.TheVariants.{BadFile, Cut}
use Rattle.sm_disk.specs.Streams.{Takes}
use Rattle.sm_disk.proofs.StreamLaws.{Takes-then}
use Rattle.vhd_layout.specs.Readings.{some_below}
use Rattle.vhd_stream.specs.Files.{File, FileLayout, entry, table_end}
use Rattle.vhd_import.specs.declared.faults.ImportFault.TheVariants as fault
use Rattle.vhd_import.specs.declared.tables.Entry.{Entry}
use Rattle.vhd_import.specs.declared.tables.TableRead.{TableRead}
use Rattle.vhd_import.specs.Apart.{stand_apart}
use Rattle.vhd_import.specs.Blocks.{IsKnown}
use Rattle.vhd_import.specs.Dynamics.{HasPlaces, IsBeforeTable, IsStopped, IsTablePart}
use Rattle.vhd_import.specs.Entries.{IsTableRead, entries_from, table_entry}
use Rattle.vhd_import.specs.Progress.{FaultSays, HasRead, puts_of}
use Rattle.vhd_import.specs.Puts.{Put, put_at}
use Rattle.vhd_import.specs.Room.{Target}
use Rattle.vhd_import.specs.Tables.{is_table_wrong}
use Rattle.vhd_import.specs.Verdicts.{denial_at, is_whole, read_up_to, sector_limit}
use Rattle.vhd_import.proofs.AgreeLaws.{agree-front, same-denial}
use Rattle.vhd_import.proofs.DynamicLaws.{before-none, front-right, known-more, open-known, part-right, quiet-sector, short-part, wrong-denial}
use Rattle.vhd_import.proofs.FrontLaws.{end-says, last-says, puts-front}
use Rattle.vhd_import.proofs.HeadLaws.{begin-behind, headed}
use Rattle.vhd_import.proofs.KeptLaws.{kept-of-file}
use Rattle.vhd_import.proofs.SkipLaws.{still-read}

IsLong : List ℕ → Type 0
IsLong s = length s ≡ 512

-- ---- bytes and sectors

Takes-split : (a c : Option (List ℕ)) (xs ys : List ℕ) → Takes a (xs ++ ys) c → (b : Option (List ℕ)) × Takes a xs b × Takes b ys c
Takes-split None c xs ys t = (None, refl, t)
Takes-split (Some left) c xs ys (rest, is, front) = (Some (ys ++ rest), (ys ++ rest, refl, front ∙ append_assoc xs ys rest), (rest, is, refl))

puts-still : (file : File) (from n : ℕ) → ((k : ℕ) → from ≤ k → k < from + n → put_at file k ≡ None) → puts_of file (from + n) ≡ puts_of file from
unfolding puts_of
puts-still file from zero none = let e : from + zero ≡ from = omega arith in ap (puts_of file) e
puts-still file from (suc n) none =
    let e : from + suc n ≡ suc (from + n) = omega arith in
    ap (puts_of file) e ∙ ap (λ (o : Option Put). cons_option o (puts_of file (from + n))) (none (from + n) (omega arith) (omega arith))
    ∙ puts-still file from n (λ k low high. none k low (omega (arith, high)))

-- sectors more that put nothing and decide nothing
read-many : (t : Target) (had mid left : Option (List ℕ)) (front secs : File) (puts : List Put) → HasRead t had mid front puts → All (λ s. length s ≡ 512) secs → length (front ++ secs) ≤ sector_limit → Takes mid (concat secs) left
    → ((k : ℕ) → length front ≤ k → k < length (front ++ secs) → (put_at (front ++ secs) k ≡ None) × (denial_at t (front ++ secs) k ≡ None)) → HasRead t had left (front ++ secs) puts
unfolding IsLong
read-many t had mid left front secs puts r whole few takes quiet = record {
  whole = All-append IsLong front secs r.whole whole;
  few = few;
  takes = subst (λ bytes. Takes had bytes left) (sym (concat-append front secs)) (Takes-then had mid left (concat front) (concat secs) r.takes takes);
  undenied = λ k less. ⊎_elim (λ (low : k < length front). same-denial k (front ++ secs) front (agree-front front secs k low) t ∙ r.undenied k low) (λ (high : length front ≤ k). (quiet k high less).1) (cases_lt k (length front));
  puts_are =
      let long : length (front ++ secs) ≡ length front + length secs = length-append front secs in
      r.puts_are ∙ sym (puts-front front secs (length front) (omega arith))
      ∙ sym (ap (puts_of (front ++ secs)) long ∙ puts-still (front ++ secs) (length front) (length secs) (λ k low high. (quiet k low (omega (arith, high, long))).0));
}

-- the first of some numbers that passes a test, or none does
least : (p : ℕ → Bool) (n : ℕ) → ((k : ℕ) × (k < n) × (p k ≡ true) × ((j : ℕ) → j < k → p j ≡ false)) ⊎ ((j : ℕ) → j < n → p j ≡ false)
least p zero = inr (λ j less. absurd (omega (arith, less)))
least p (suc n) = ⊎_elim (λ l. inl (l.0, omega (arith, l.1), l.2, l.3)) (λ none. by (p n) refl none) (least p n)
  where
    by : (b : Bool) → p n ≡ b → ((j : ℕ) → j < n → p j ≡ false) → ((k : ℕ) × (k < suc n) × (p k ≡ true) × ((j : ℕ) → j < k → p j ≡ false)) ⊎ ((j : ℕ) → j < suc n → p j ≡ false)
    by true is none = inl (n, omega arith, is, none)
    by false is none = inr (λ j less. ⊎_elim (λ low. none j low) (λ high. let e : j ≡ n = omega (arith, high, less) in ap p e ∙ is) (cases_lt j n))

-- ---- a table of which a part was read

module _ (t : Target) (had m0 left : Option (List ℕ)) (front : File) (puts : List Put) (f : FileLayout) (size : ℕ) (w : IsBeforeTable t had m0 front puts f size) (r : TableRead) (p : IsTablePart m0 left f r) where
  abbrev pub all : File
  all = front ++ p.sectors

  -- the layout of the blocks whose entries were read
  abbrev pub part : FileLayout
  part = record f { blocks = min f.blocks (128 * r.sectors) }

  some : 3 ≤ length front
  some = omega (arith, begin-behind front f w.known.layout, w.long)

  pub all-long : length all ≡ f.table + r.sectors
  all-long = omega (arith, length-append front p.sectors, w.long, p.count)

  known : IsKnown all f size
  known = known-more front p.sectors f size some w.known

  pub split : (b : Option (List ℕ)) × Takes m0 (concat p.sectors) b × Takes b p.part left
  split = Takes-split m0 left (concat p.sectors) p.part p.read.takes

  -- what is kept are the entries of the file
  kept-as : (n : ℕ) → n ≡ min f.blocks (128 * r.sectors) → r.kept.items ≡ entries_from (entry (record f { blocks = n }) all) 0 n
  kept-as n is =
      p.kept_are ∙ ap (entries_from (table_entry p.sectors) 0) (sym is) ∙ kept-of-file (record f { blocks = n }) front p.sectors [] w.long (omega (arith, is, p.count))
      ∙ ap (λ (x : File). entries_from (entry (record f { blocks = n }) (front ++ x)) 0 n) (append-nil p.sectors)

  pub kept-part : r.kept.items ≡ entries_from (entry part all) 0 part.blocks
  kept-part = kept-as (min f.blocks (128 * r.sectors)) refl

  before : (k : ℕ) → k < length all → put_at all k ≡ None
  before k less = before-none all f size k known (omega (arith, less, all-long, p.few))

  right-up : is_table_wrong part all ≡ false → (k : ℕ) → k < length all → is_table_wrong (read_up_to k f) all ≡ false
  right-up right k less = part-right part all (min f.blocks (128 * (k + 1 - f.table))) (omega (arith, less, all-long)) right

  pub table-read : is_table_wrong part all ≡ false → HasRead t had split.0 all puts
  table-read right = read-many t had m0 split.0 front p.sectors puts w.read p.read.whole (omega (arith, all-long, p.within)) split.1 (λ k low less.
      let none = before k less in
      (none, quiet-sector t all f size k known (omega (arith, low, some)) (right-up right k less) none))

  -- a table that was read whole, and is right
  pub has-places : is_table_wrong part all ≡ false → f.table + r.sectors ≡ table_end f → (entries : List Entry) → IsPermutation r.kept.items entries → stand_apart (table_end f) (1 + f.block) entries ≡ true → HasPlaces t had left front puts f size entries
  unfolding div_up
  has-places right end entries same apart =
      let fits = (headed front f w.known.layout).fits in
      let full : f.blocks ≡ min f.blocks (128 * r.sectors) = omega (arith, fits, end) in
      let nothing : p.part ≡ [] = ⊎_elim (λ a. a.0) (λ o. ⊎_elim (λ b. b.0) (λ c. absurd (omega (arith, c.1, end))) o) p.stop in
      let still : Takes split.0 [] left = subst (λ b. Takes split.0 b left) nothing split.2 in
      record {
        more = p.sectors;
        before = record {
          read = still-read t had split.0 left all puts (table-read right) still;
          tabled = record { known = known; behind = omega (arith, all-long, end); right = ap (λ n. is_table_wrong (record f { blocks = n }) all) full ∙ right };
          same = subst (λ es. IsPermutation es entries) (kept-as f.blocks full) same;
          apart = apart;
          long = all-long ∙ end;
        };
      }

  -- a table that was not read whole
  pub table-stopped : is_table_wrong part all ≡ false → f.table + r.sectors < table_end f → IsStopped t had left all puts
  table-stopped right short = record {
    mid = split.0;
    part = p.part;
    read = table-read right;
    unended = open-known all f size known (short-part all f (is_whole all f) refl (omega (arith, all-long, short)));
    less = p.read.less;
    takes = split.2;
    stop = ⊎_elim (λ a. absurd (omega (arith, a.1, short))) (λ o. ⊎_elim (λ b. inl (omega (arith, all-long, b.1), b.0)) (λ c. inr (omega (arith, all-long, c.0), c.2)) o) p.stop;
  }

  -- a table that is wrong as far as it was read
  pub wrong-says : is_table_wrong part all ≡ true → FaultSays t had (fault.Refused (BadFile f.table))
  unfolding some_below IsLong
  wrong-says wrong = ⊎_elim found (λ none. absurd (missed none)) (least (λ k. is_table_wrong (read_up_to k f) all) (length all))
    where
      missed : ((j : ℕ) → j < length all → is_table_wrong (read_up_to j f) all ≡ false) → ⊥
      missed none = ⊎_elim
          (λ (more : 0 < r.sectors).
          let k : ℕ = f.table + r.sectors - 1 in
          let last : min f.blocks (128 * (k + 1 - f.table)) ≡ min f.blocks (128 * r.sectors) = omega (arith, more) in
          let e : is_table_wrong part all ≡ false = ap (λ n. is_table_wrong (record f { blocks = n }) all) (sym last) ∙ none k (omega (arith, all-long, more)) in
          cc (sym wrong ∙ e))
          (λ (empty : r.sectors ≤ 0).
          let zero_blocks : min f.blocks (128 * r.sectors) ≡ 0 = omega (arith, empty) in
          let e : is_table_wrong part all ≡ false = ap (λ n. is_table_wrong (record f { blocks = n }) all) zero_blocks in
          cc (sym wrong ∙ e))
          (cases_lt 0 r.sectors)

      found : (k : ℕ) × (k < length all) × (is_table_wrong (read_up_to k f) all ≡ true) × ((j : ℕ) → j < k → is_table_wrong (read_up_to j f) all ≡ false) → FaultSays t had (fault.Refused (BadFile f.table))
      found (k, less, is, none) =
          let late : f.table ≤ k = ⊎_elim (λ (low : k < f.table). absurd (let e = front-right f all k low in cc (sym is ∙ e))) (λ h. h) (cases_lt k f.table) in
          let takes : Takes had (concat all) split.0 = subst (λ bytes. Takes had bytes split.0) (sym (concat-append front p.sectors)) (Takes-then had m0 split.0 (concat front) (concat p.sectors) w.read.takes split.1) in
          last-says t had split.0 all k (BadFile f.table) (All-append IsLong front p.sectors w.read.whole p.read.whole) less (omega (arith, all-long, p.within)) takes
          (λ j before_k. ⊎_elim
          (λ (low : j < length front). same-denial j all front (agree-front front p.sectors j low) t ∙ w.read.undenied j low)
          (λ (high : length front ≤ j). quiet-sector t all f size j known (omega (arith, high, some)) (none j before_k) (before j (omega (arith, before_k, less))))
          (cases_lt j (length front)))
          (wrong-denial t all f size k known (omega (arith, late, begin-behind front f w.known.layout)) is)

-- ---- what was read of a table, and what follows where it was not all

pub as-part : (had left : Option (List ℕ)) (f : FileLayout) (r : TableRead) (entries blocks within : ℕ) → f.table ≤ sector_limit → f.blocks ≤ f.entries → within ≡ min (div_up f.entries 128) (sector_limit - f.table) → entries ≡ min f.entries (128 * within)
    → blocks ≡ min f.blocks (128 * within) → IsTableRead had left entries blocks r → IsTablePart had left f r
unfolding div_up
as-part had left f r entries blocks within low fits is many few p =
    let count : div_up entries 128 ≡ within = omega (arith, is, many) in
    let most : r.sectors ≤ within = ⊎_elim (λ a. omega (arith, a.0, count)) (λ b. omega (arith, b.0, count)) p.all in
    record {
      sectors = p.sectors;
      part = p.part;
      read = p.read;
      count = p.count;
      few = omega (arith, most, is);
      within = omega (arith, most, is, low);
      stop = ⊎_elim
          (λ a. ⊎_elim (λ (short : within < div_up f.entries 128). inr (inl (a.1, omega (arith, a.0, count, is, short, low)))) (λ (full : div_up f.entries 128 ≤ within). inl (a.1, omega (arith, a.0, count, is, full))) (cases_lt within (div_up f.entries 128)))
          (λ b. inr (inr (omega (arith, b.0, count, is, low), omega (arith, b.0, count, is), b.1)))
          p.all;
      kept_are = let same : min blocks (128 * r.sectors) ≡ min f.blocks (128 * r.sectors) = omega (arith, few, most) in p.kept_are ∙ ap (entries_from (table_entry p.sectors) 0) same;
    }

module _ (t : Target) (had left : Option (List ℕ)) (front : File) (puts : List Put) (count : ℕ) (s : IsStopped t had left front puts) (long : length front ≡ count) where
  pub stopped-cut : count < sector_limit → FaultSays t had (fault.Refused (Cut count))
  stopped-cut less = ⊎_elim
      (λ a. absurd (omega (arith, a.0, long, less)))
      (λ b. end-says t had s.mid left front puts s.part (Cut count) s.read s.takes b.1 s.less (λ some. b.0) (s.unended (nat_lt 0 (length s.part)) ∙ ap (λ m. Some (Cut m)) long))
      s.stop

  pub stopped-read : sector_limit ≤ count → HasRead t had left front puts
  stopped-read more = ⊎_elim (λ a. still-read t had s.mid left front puts s.read (subst (λ b. Takes s.mid b left) a.1 s.takes)) (λ b. absurd (omega (arith, b.0, long, more))) s.stop
