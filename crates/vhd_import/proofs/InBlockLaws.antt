-- A block of a dynamic file of which a part was read.
use Rattle.std.proofs.Common.{◌≡◌, ◌⊎◌, ⊎_elim, inl, inr, ℕ, ◌+◌, ◌*◌, ◌<◌, ◌≤◌, true, false, List, [], ◌∷◌, ◌++◌, length, Option, Some, None, refl, sym, ap, ◌∙◌, arith, subst, append_assoc}
use Rattle.std.specs.List.{cons_option}
use Rattle.std.proofs.Math.ListN.{get_or-append}
use Rattle.std.proofs.lemmas.Bool.{cases_eq}
use Rattle.std.proofs.lemmas.List.{get_or-append-add}
use Rattle.sm_base.specs.declared.refusals.Refusal.{Refusal}
use Rattle.sm_disk.specs.Streams.{Takes}
use Rattle.vhd_map.specs.Bitmaps.{is_set}
use Rattle.vhd_stream.specs.Files.{File, FileLayout, IsThere, entry, sector_at}
use Rattle.vhd_import.specs.declared.faults.ImportFault.TheVariants as fault
use Rattle.vhd_import.specs.Blocks.{GoesOn, IsTabled}
use Rattle.vhd_import.specs.Making.{put_lacks}
use Rattle.vhd_import.specs.Progress.{FaultSays, HasRead, IsOpen, puts_of}
use Rattle.vhd_import.specs.Puts.{Put, put_at}
use Rattle.vhd_import.specs.Room.{Target}
use Rattle.vhd_import.specs.Verdicts.{denial_at, sector_limit}
use Rattle.vhd_import.proofs.BlockLaws.{between, entry-more, other-data, set-data, tabled-more, there-more}
use Rattle.vhd_import.proofs.DynamicLaws.{open-block}
use Rattle.vhd_import.proofs.FrontLaws.{count-more, more-read, puts-front, refused-says}
use Rattle.vhd_import.proofs.HeadLaws.{end-behind, headed}
use Rattle.vhd_import.proofs.TableLaws.{apart-right}

-- the bits of a block were read, and so many of its sectors
pub record IsInBlock (t : Target) (had left : Option (List ℕ)) (front : File) (holds : List Put → Type 0) (place i : ℕ) (bits : List ℕ) : Type 0 where
  pub goes : GoesOn t had left front holds (place + 1 + i)
  pub bits_are : sector_at (front ++ goes.more) place ≡ bits

module _ (t : Target) (had : Option (List ℕ)) (front : File) (f : FileLayout) (size place b : ℕ) (w : IsTabled front f size) (there : IsThere f front b) (at : entry f front b ≡ place) (long : length front ≡ place) where
  below : b < f.entries
  below = let h = headed front f w.known.layout in omega (arith, there.below, h.fits)

  at-more : (more : File) → entry f (front ++ more) b ≡ place
  at-more more = entry-more front more f size w b below ∙ at

  -- a file that ends inside the block is cut
  pub open-more : (more : File) → length (front ++ more) < place + 1 + f.block → IsOpen (front ++ more)
  open-more more short =
      let e = at-more more in
      open-block (front ++ more) f size b (tabled-more front more f size w).known (there-more front more f size w b there) (omega (arith, e, short))

  pub open-now : IsOpen front
  open-now = open-block front f size b w.known there (omega (arith, at, long))

  -- the sector of bits puts nothing
  pub bits-read : (mid left : Option (List ℕ)) (puts : List Put) (holds : List Put → Type 0) (s : List ℕ) → HasRead t had mid front puts → holds puts → length s ≡ 512 → place < sector_limit → Takes mid s left → IsInBlock t had left front holds place 0 s
  bits-read mid left puts holds s r h full few takes =
      let all : File = front ++ s ∷ [] in
      let tab = tabled-more front (s ∷ []) f size w in
      let a = apart-right f all tab.right in
      let e = at-more (s ∷ []) in
      let end = w.behind in
      let q = between t all f size place tab (let d = end-behind front f w.known.layout in omega (arith, d, end, long)) (λ c is. ⊎_elim
      (λ (same : c ≡ b). inl (omega (arith, ap (entry f all) same, e)))
      (λ (differ : c ≡ b → ⊥). ⊎_elim (λ h. inr (omega (arith, h, e))) (λ h. inl (omega (arith, h, e))) (a.apart c b is (there-more front (s ∷ []) f size w b there) differ))
      (cases_eq c b)) in
      record {
        goes = record {
          more = s ∷ [];
          puts = puts;
          read = more-read t had mid left front puts puts s r full (omega (arith, long, few)) takes (ap (denial_at t all) long ∙ q.1) (ap (λ (o : Option Put). cons_option o puts) (sym (ap (put_at all) long ∙ q.0)));
          held = h;
          long = omega (arith, count-more front s, long);
        };
        bits_are = let k : place ≡ length front + 0 = omega (arith, long) in ap (sector_at all) k ∙ get_or-append-add front (s ∷ []) 0 [];
      }

  module _ (mid left : Option (List ℕ)) (holds : List Put → Type 0) (i : ℕ) (bits s : List ℕ) (k : IsInBlock t had mid front holds place i bits) (less : i < f.block) (full : length s ≡ 512) (few : place + 1 + i < sector_limit) (takes : Takes mid s left) where
    abbrev pub all : File
    all = front ++ (k.goes.more ++ s ∷ [])

    same : (front ++ k.goes.more) ++ s ∷ [] ≡ all
    same = append_assoc front k.goes.more (s ∷ [])

    here : length (front ++ k.goes.more) ≡ entry f all b + 1 + i
    here = omega (arith, k.goes.long, at-more (k.goes.more ++ s ∷ []))

    last : sector_at all (entry f all b + 1 + i) ≡ s
    last =
        let e : entry f all b + 1 + i ≡ length (front ++ k.goes.more) + 0 = omega (arith, here) in
        ap (sector_at all) e ∙ ap (λ x. sector_at x (length (front ++ k.goes.more) + 0)) (sym same) ∙ get_or-append-add (front ++ k.goes.more) (s ∷ []) 0 []

    bits-same : sector_at all (entry f all b) ≡ bits
    bits-same =
        ap (sector_at all) (at-more (k.goes.more ++ s ∷ [])) ∙ ap (λ x. sector_at x place) (sym same)
        ∙ get_or-append (front ++ k.goes.more) (s ∷ []) [] place (omega (arith, k.goes.long)) ∙ k.bits_are

    before : puts_of all (entry f all b + 1 + i) ≡ k.goes.puts
    before =
        ap (puts_of all) (sym here) ∙ ap (λ x. puts_of x (length (front ++ k.goes.more))) (sym same) ∙ puts-front (front ++ k.goes.more) (s ∷ []) (length (front ++ k.goes.more)) (omega arith)
        ∙ sym k.goes.read.puts_are

    moved : (holds' : List Put → Type 0) (after : List Put) → holds' after → denial_at t all (entry f all b + 1 + i) ≡ None → after ≡ cons_option (put_at all (entry f all b + 1 + i)) k.goes.puts → IsInBlock t had left front holds' place (i + 1) bits
    moved holds' after h none put = record {
      goes = record {
        more = k.goes.more ++ s ∷ [];
        puts = after;
        read = subst (λ x. HasRead t had left x after) same
            (more-read t had mid left (front ++ k.goes.more) k.goes.puts after s k.goes.read full (omega (arith, k.goes.long, few)) takes (ap (denial_at t ((front ++ k.goes.more) ++ s ∷ [])) here ∙ ap (λ x. denial_at t x (entry f all b + 1 + i)) same ∙ none)
            (put ∙ ap (λ (o : Option Put). cons_option o k.goes.puts) (sym (ap (put_at ((front ++ k.goes.more) ++ s ∷ [])) here ∙ ap (λ x. put_at x (entry f all b + 1 + i)) same))));
        held = h;
        long = ap (λ (x : File). length x) (sym same) ∙ omega (arith, count-more (front ++ k.goes.more) s, k.goes.long);
      };
      bits_are = ap (sector_at all) (sym (at-more (k.goes.more ++ s ∷ []))) ∙ bits-same;
    }

    abbrev pub put : Put
    put = record { sector = b * f.block + i; bytes = s }

    -- a sector whose bit is set is put
    pub put-more : (holds' : List Put → Type 0) → is_set bits i ≡ true → b * f.block + i < size → put_lacks t put k.goes.puts ≡ None → holds' (put ∷ k.goes.puts) → IsInBlock t had left front holds' place (i + 1) bits
    put-more holds' set within room h =
        let d = set-data t all f size (entry f all b + 1 + i) b i (tabled-more front (k.goes.more ++ s ∷ []) f size w) (there-more front (k.goes.more ++ s ∷ []) f size w b there) refl less (ap (λ x. is_set x i) bits-same ∙ set) within in
        moved holds' (put ∷ k.goes.puts) h (d.1 ∙ ap (λ x. put_lacks t (record { sector = b * f.block + i; bytes = x }) (puts_of all (entry f all b + 1 + i))) last ∙ ap (put_lacks t put) before ∙ room)
        (ap (λ (o : Option Put). cons_option o k.goes.puts) (ap (λ x. Some (record { sector = b * f.block + i; bytes = x })) (sym last) ∙ sym d.0))

    -- or denies the file
    pub put-says : (r : Refusal) → is_set bits i ≡ true → b * f.block + i < size → put_lacks t put k.goes.puts ≡ Some r → FaultSays t had (fault.Refused r)
    put-says r set within room =
        let d = set-data t all f size (entry f all b + 1 + i) b i (tabled-more front (k.goes.more ++ s ∷ []) f size w) (there-more front (k.goes.more ++ s ∷ []) f size w b there) refl less (ap (λ x. is_set x i) bits-same ∙ set) within in
        refused-says t had mid left (front ++ k.goes.more) k.goes.puts s r k.goes.read full (omega (arith, k.goes.long, few)) takes
        (ap (denial_at t ((front ++ k.goes.more) ++ s ∷ [])) here ∙ ap (λ x. denial_at t x (entry f all b + 1 + i)) same ∙ d.1 ∙ ap (λ x. put_lacks t (record { sector = b * f.block + i; bytes = x }) (puts_of all (entry f all b + 1 + i))) last
        ∙ ap (put_lacks t put) before ∙ room)

    -- another is not
    pub pass-more : (holds' : List Put → Type 0) → (is_set bits i ≡ false) ⊎ (size ≤ b * f.block + i) → holds' k.goes.puts → IsInBlock t had left front holds' place (i + 1) bits
    pass-more holds' which h =
        let d = other-data t all f size (entry f all b + 1 + i) b i (tabled-more front (k.goes.more ++ s ∷ []) f size w) (there-more front (k.goes.more ++ s ∷ []) f size w b there) refl less
        (⊎_elim (λ e. inl (ap (λ x. is_set x i) bits-same ∙ e)) (λ e. inr e) which) in
        moved holds' k.goes.puts h d.1 (ap (λ (o : Option Put). cons_option o k.goes.puts) (sym d.0))
