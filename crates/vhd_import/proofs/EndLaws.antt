-- A dynamic file that was read to its end.
use Rattle.std.proofs.Common.{◌≡◌, ◌⊎◌, inl, inr, ⊎_elim, ℕ, ◌+◌, ◌*◌, ◌/◌, ◌%◌, ◌<◌, ◌≤◌, true, false, List, [], ◌++◌, length, length-append, get_or, Option, Some, None, refl, sym, ap, ◌∙◌, arith, subst, append_assoc}
use Rattle.std.specs.Prelude.{◌==◌, All, IfSome}
use Rattle.std.specs.Option.{option_map_or}
use Rattle.std.proofs.lemmas.Bool.{cases_Bool, cases_lt}
use Rattle.std.proofs.lemmas.Bool.Decides.{nat_tests}
use Rattle.std.proofs.Math.Nat.{mod-lt}
use Rattle.std.proofs.lemmas.Nat.{div-add-mod'}
use Rattle.std.proofs.lemmas.List.{get_or_default, get_or_past}
use Rattle.sm_base.specs.Numbers.{div_up}
use Rattle.sm_disk.specs.Sectors.{zeros}
use Rattle.sm_disk.proofs.StreamLaws.{Takes-none}
use Rattle.sm_run.specs.Runs.{IsSpent}
use Rattle.vhd_fields.specs.declared.footers.Footer.{Footer}
use Rattle.vhd_map.specs.Bitmaps.{is_set}
use Rattle.vhd_map.specs.Places.{blank}
use Rattle.vhd_stream.specs.Files.{AreSectors, File, FileLayout, IsThere, block_end, entry, file_sector, sector_at, sector_in}
use Rattle.vhd_import.specs.Blocks.{IsPastBlocks, IsTabled}
use Rattle.vhd_import.specs.Heads.{layout_at, size_at}
use Rattle.vhd_import.specs.Making.{filled}
use Rattle.vhd_import.specs.Progress.{HasRead, IsMadeOf, IsQuiet, puts_of}
use Rattle.vhd_import.specs.Puts.{Put, put_at}
use Rattle.vhd_import.specs.Room.{Target}
use Rattle.vhd_import.specs.Verdicts.{denial_at_end, is_whole, sector_limit, sectors_of}
use Rattle.vhd_import.proofs.BelowLaws.{dynamic-within}
use Rattle.vhd_import.proofs.BlockLaws.{below-up, set-data, tabled-more}
use Rattle.vhd_import.proofs.FilledLaws.{filled-file}
use Rattle.vhd_import.proofs.FrontLaws.{end-makes, file-is}
use Rattle.vhd_import.proofs.HeadLaws.{block-some, end-behind, headed}
use Rattle.vhd_import.proofs.MadeLaws.{IsUndenied, as-map, dynamic-holds}
use Rattle.vhd_import.proofs.PutLaws.{puts-dynamic}
use Rattle.vhd_import.proofs.TableLaws.{apart-right, right-whole}
use Rattle.vhd_import.proofs.WalkLaws.{quiet-span, same-place, there-back}

reach : (e i n l : ℕ) → e + (1 + n) ≤ l → i < n → e + 1 + i < l
reach e i n l end less = omega (arith, end, less)

module _ (t : Target) (file : File) (f : FileLayout) (size : ℕ) (w : IsTabled file f size) (past : (b : ℕ) → IsThere f file b → block_end f file b ≤ length file) where
  whole : is_whole file f ≡ true
  whole = let a = apart-right f file w.right in right-whole f file w.behind (record { behind = a.behind; whole = past; apart = a.apart })

  pub whole-end : denial_at_end file false ≡ None
  unfolding denial_at_end
  whole-end =
      let e = end-behind file f w.known.layout in
      let some : (length file == 0) ≡ false = let b = w.behind in grind (arith, nat_tests) in
      let good : option_map_or (is_whole file) (layout_at file) false ≡ true = ap (λ (o : Option FileLayout). option_map_or (is_whole file) o false) w.known.layout ∙ whole in
      rw (some, w.known.dynamic, good) refl

  -- the numbers of the file and its size
  blocks-are : (f.blocks ≡ div_up size f.block) × (0 < f.block)
  unfolding size_at
  blocks-are =
      let h = headed file f w.known.layout in
      let sized : size ≡ h.footer.current / 512 = sym w.known.sized ∙ ap (λ (o : Option Footer). option_map_or (λ x. x.current / 512) o 0) h.footer_reads in
      let many : f.blocks ≡ div_up (h.footer.current / 512) (h.header.block / 512) = ap (λ (x : FileLayout). x.blocks) h.layout_is in
      let long : f.block ≡ h.header.block / 512 = ap (λ (x : FileLayout). x.block) h.layout_is in
      let some = block-some (sector_at file 1 ++ sector_at file 2) h.header h.header_reads in
      (many ∙ ap (λ n. div_up n (h.header.block / 512)) (sym sized) ∙ ap (div_up size) (sym long), omega (arith, some, long))

  sectors-are : AreSectors size (file_sector f file) (sectors_of file)
  sectors-are = as-map size (file_sector f file) (sectors_of file) (rw (w.known.dynamic, w.known.layout, w.known.sized) refl)

  blank-sector : (e i : ℕ) → (e == blank) ≡ true → sector_in file e i ≡ zeros
  unfolding sector_in
  blank-sector e i is = rw is refl

  clear-sector : (e i : ℕ) → (e == blank) ≡ false → is_set (sector_at file e) i ≡ false → sector_in file e i ≡ zeros
  unfolding sector_in
  clear-sector e i there set = rw (there, set) refl

  -- each sector of the disk is put, or holds zeros
  put-or-zeros : (s : ℕ) → ((j : ℕ) × (p : Put) × (j < length file) × (put_at file j ≡ Some p) × (p.sector ≡ s)) ⊎ (get_or (sectors_of file) s zeros ≡ zeros)
  put-or-zeros s = ⊎_elim inside (λ past. inr (get_or_past (sectors_of file) s zeros (omega (arith, past, sectors-are.count)))) (cases_lt s size)
    where
      zero-sector : s < size → file_sector f file s ≡ zeros → get_or (sectors_of file) s zeros ≡ zeros
      zero-sector less none = sym (get_or_default (sectors_of file) s [] zeros (omega (arith, less, sectors-are.count))) ∙ sectors-are.each s less ∙ none

      inside : s < size → ((j : ℕ) × (p : Put) × (j < length file) × (put_at file j ≡ Some p) × (p.sector ≡ s)) ⊎ (get_or (sectors_of file) s zeros ≡ zeros)
      inside less = ⊎_elim
          (λ none. inr (zero-sector less (blank-sector (entry f file (s / f.block)) (s % f.block) none)))
          (λ there. ⊎_elim
          (λ set.
          let n = blocks-are in
          let low : s / f.block < f.blocks = below-up f.block s size f.blocks n.1 less (omega (arith, n.0)) in
          let is : IsThere f file (s / f.block) = record { below = low; named = λ same. let e : (entry f file (s / f.block) == blank) ≡ true = grind (arith, nat_tests) in cc (sym e ∙ there) } in
          let short : s % f.block < f.block = mod-lt s n.1 in
          let at : s / f.block * f.block + s % f.block ≡ s = div-add-mod' s f.block in
          let d = set-data t file f size (entry f file (s / f.block) + 1 + s % f.block) (s / f.block) (s % f.block) w is refl short set (subst (λ n. n < size) (sym at) less) in
          inl (entry f file (s / f.block) + 1 + s % f.block, record { sector = s / f.block * f.block + s % f.block; bytes = sector_at file (entry f file (s / f.block) + 1 + s % f.block) }, reach (entry f file (s / f.block)) (s % f.block) f.block (length file) (past (s / f.block) is) short, d.0, at))
          (λ clear. inr (zero-sector less (clear-sector (entry f file (s / f.block)) (s % f.block) there clear)))
          (cases_Bool (is_set (sector_at file (entry f file (s / f.block))) (s % f.block))))
          (cases_Bool (entry f file (s / f.block) == blank))

  -- what a file that was read to its end puts is the disk that it holds
  pub made-dynamic : (bytes : List ℕ) (left : Option (List ℕ)) (puts : List Put) → HasRead t (Some bytes) left file puts → IsSpent left → IsMadeOf t bytes size puts
  made-dynamic bytes left puts r spent =
      let undenied : IsUndenied t file = record { none = r.undenied; ended = whole-end } in
      let holds = dynamic-holds t file (sectors_of file) w.known.dynamic undenied refl in
      record {
        sectors = sectors_of file;
        made = end-makes t bytes left left file puts r (Takes-none left) spent whole-end;
        long = sectors-are.count;
        puts_are = r.puts_are ∙ ap (λ (x : File). puts_of x (length x)) (sym (file-is t bytes left left file puts r (Takes-none left) spent));
        filled_are = λ s. ap (λ l. filled l s) r.puts_are ∙ filled-file file (sectors_of file) s (puts-dynamic file (sectors_of file) holds) (put-or-zeros s);
      }

-- ---- behind the blocks

module _ (t : Target) (had mid : Option (List ℕ)) (front : File) (holds : List Put → Type 0) (f : FileLayout) (size last : ℕ) (w : IsTabled front f size) (p : IsPastBlocks t had mid front holds f last) where
  pub quiet-rest : IsQuiet t (front ++ p.goes.more) sector_limit
  quiet-rest = quiet-span front f size w t p.goes.more sector_limit (λ b is. inl (let e = p.past b is in omega (arith, e, p.goes.long)))

  pub ends-dynamic : (left : Option (List ℕ)) (rest : File) → HasRead t had left ((front ++ p.goes.more) ++ rest) p.goes.puts → IsSpent left → IfSome had (λ bytes. IsMadeOf t bytes size p.goes.puts)
  ends-dynamic left rest read spent = by had read
    where
      all : (front ++ p.goes.more) ++ rest ≡ front ++ (p.goes.more ++ rest)
      all = append_assoc front p.goes.more rest

      tabled : IsTabled ((front ++ p.goes.more) ++ rest) f size
      tabled = tabled-more (front ++ p.goes.more) rest f size (tabled-more front p.goes.more f size w)

      past : (b : ℕ) → IsThere f ((front ++ p.goes.more) ++ rest) b → block_end f ((front ++ p.goes.more) ++ rest) b ≤ length ((front ++ p.goes.more) ++ rest)
      past b is =
          let there : IsThere f front b = there-back front f size w (p.goes.more ++ rest) b (subst (λ x. IsThere f x b) all is) in
          let at : entry f ((front ++ p.goes.more) ++ rest) b ≡ entry f front b = ap (λ x. entry f x b) all ∙ same-place front f size w (p.goes.more ++ rest) b there in
          let e = p.past b there in
          omega (arith, e, at, p.goes.long, length-append (front ++ p.goes.more) rest)

      by : (o : Option (List ℕ)) → HasRead t o left ((front ++ p.goes.more) ++ rest) p.goes.puts → IfSome o (λ bytes. IsMadeOf t bytes size p.goes.puts)
      by None r = tt
      by (Some bytes) r = made-dynamic t ((front ++ p.goes.more) ++ rest) f size tabled past bytes left p.goes.puts r spent

  -- each of its puts lies within the disk
  pub below-dynamic : (left : Option (List ℕ)) (rest : File) → HasRead t had left ((front ++ p.goes.more) ++ rest) p.goes.puts → All (λ (q : Put). q.sector < size) p.goes.puts
  below-dynamic left rest read =
      let known = (tabled-more (front ++ p.goes.more) rest f size (tabled-more front p.goes.more f size w)).known in
      subst (λ (l : List Put). All (λ (q : Put). q.sector < size) l) (sym read.puts_are) (dynamic-within ((front ++ p.goes.more) ++ rest) size known.dynamic known.sized)
