-- What the first sectors and the last one of a file say, where they read and where they do not.
use Rattle.std.proofs.Common.{◌≡◌, ℕ, ◌+◌, ◌-◌, ◌*◌, ◌/◌, ◌<◌, ◌≤◌, Bool, true, false, ◌&&◌, ◌++◌, length, Option, Some, None, Result, Ok, Err, refl, sym, ap, ◌∙◌, arith, subst}
use Rattle.std.specs.Prelude.{◌==◌, is_some, nat_le, nat_lt, if◌then◌else◌}
use Rattle.std.specs.Option.{option_map_or}
use Rattle.std.specs.Result.{result_ok}
use Rattle.std.proofs.lemmas.Bool.{le-ltb, lt-ltb}
use Rattle.common_laws.specs.Lists.{given, ◌>>=◌}
use Rattle.sm_base.specs.Numbers.{div_up}
use Rattle.vhd_fields.specs.declared.faults.FieldFault.{FieldFault}
use Rattle.vhd_fields.specs.declared.footers.Footer.{Footer}
use Rattle.vhd_fields.specs.declared.headers.Header.{Header}
use Rattle.vhd_fields.specs.Footers.{footer_read}
use Rattle.vhd_fields.specs.Headers.{header_read}
use Rattle.vhd_stream.specs.Files.{File, FileLayout, layout_of, sector_at}
use Rattle.sm_base.specs.declared.refusals.Refusal.TheVariants.{BadFile}
use Rattle.vhd_import.specs.Heads.{any_header, exceeds, footer_at, header_at, is_dynamic, is_kind, lacks_entries, layout_at, size_at, without_parent}
use Rattle.vhd_import.specs.Room.{Target}
use Rattle.vhd_import.specs.Verdicts.{denial_at, dynamic_denials, is_footed}
use Rattle.vhd_import.proofs.HeadLaws.{header-is, layout-is, of-kind}

-- ---- footers

pub footer-reads : (file : File) (k : ℕ) (r : Result Footer FieldFault) → footer_read (sector_at file k) ≡ r → footer_at file k ≡ result_ok r
unfolding footer_at
footer-reads file k r is = ap (λ (x : Result Footer FieldFault). result_ok x) is

pub kind-is : (kind : ℕ) (file : File) (f : Footer) (b : Bool) → footer_read (sector_at file 0) ≡ Ok f → (f.kind == kind) ≡ b → is_kind kind (footer_at file 0) ≡ b
kind-is kind file f b reads same = ap (is_kind kind) (footer-reads file 0 (Ok f) reads) ∙ same

pub kind-none : (kind : ℕ) (file : File) (e : FieldFault) → footer_read (sector_at file 0) ≡ Err e → is_kind kind (footer_at file 0) ≡ false
kind-none kind file e reads = ap (is_kind kind) (footer-reads file 0 (Err e) reads)

pub size-is : (file : File) (f : Footer) → footer_read (sector_at file 0) ≡ Ok f → size_at file ≡ f.current / 512
unfolding size_at
size-is file f reads = ap (λ (o : Option Footer). option_map_or (λ x. x.current / 512) o 0) (footer-reads file 0 (Ok f) reads)

pub footed-is : (file : File) (sectors : ℕ) (f : Footer) → length file ≡ sectors + 1 → footer_read (sector_at file sectors) ≡ Ok f → is_footed file ≡ ((f.kind == 2) && (f.current == 512 * sectors))
unfolding is_footed
footed-is file sectors f long reads =
    let last : length file - 1 ≡ sectors = omega (arith, long) in
    ap (λ n. option_map_or (λ x. (x.kind == 2) && (x.current == 512 * n)) (footer_at file n) false) last
    ∙ ap (λ (o : Option Footer). option_map_or (λ x. (x.kind == 2) && (x.current == 512 * sectors)) o false) (footer-reads file sectors (Ok f) reads)

pub footed-none : (file : File) (sectors : ℕ) (e : FieldFault) → length file ≡ sectors + 1 → footer_read (sector_at file sectors) ≡ Err e → is_footed file ≡ false
unfolding is_footed
footed-none file sectors e long reads =
    let last : length file - 1 ≡ sectors = omega (arith, long) in
    ap (λ n. option_map_or (λ x. (x.kind == 2) && (x.current == 512 * n)) (footer_at file n) false) last
    ∙ ap (λ (o : Option Footer). option_map_or (λ x. (x.kind == 2) && (x.current == 512 * sectors)) o false) (footer-reads file sectors (Err e) reads)

-- ---- headers

-- a dynamic file of so many sectors has a footer that says so
footer-of : (file : File) (sectors : ℕ) → is_dynamic file ≡ true → size_at file ≡ sectors → (f : Footer) × (footer_at file 0 ≡ Some f) × (f.current / 512 ≡ sectors)
unfolding size_at
footer-of file sectors dynamic sized =
    let f = of-kind 3 (footer_at file 0) dynamic in
    (f.0, f.1, ap (λ (o : Option Footer). option_map_or (λ x. x.current / 512) o 0) (sym f.1) ∙ sized)

pub numbers-are : (file : File) (sectors : ℕ) (h : Header) → is_dynamic file ≡ true → size_at file ≡ sectors → header_read (sector_at file 1 ++ sector_at file 2) ≡ Ok h → h.parent ≡ None → div_up sectors (h.block / 512) ≤ h.entries
    → layout_at file ≡ Some (record { table = h.table_offset / 512; entries = h.entries; block = h.block / 512; blocks = div_up sectors (h.block / 512) })
numbers-are file sectors h dynamic sized reads alone fits =
    let f = footer-of file sectors dynamic sized in
    layout-is file f.0 h f.1 (header-is file h reads alone) (subst (λ n. div_up n (h.block / 512) ≤ h.entries) (sym f.2) fits)
    ∙ ap (λ n. Some (record { table = h.table_offset / 512; entries = h.entries; block = h.block / 512; blocks = div_up n (h.block / 512) })) f.2

-- a header that reads or not says whether its table has entries enough
entries-say : (file : File) (f : Footer) (o : Option Header) (b : Bool) → footer_at file 0 ≡ Some f → any_header file ≡ o → option_map_or (exceeds f) o false ≡ b → lacks_entries file ≡ b
unfolding lacks_entries
entries-say file f o b footer header is =
    ap (λ (x : Option Footer). option_map_or (λ a. option_map_or (exceeds a) (any_header file) false) x false) footer ∙ ap (λ (x : Option Header). option_map_or (exceeds f) x false) header ∙ is

-- without a header that names no parent a file has no numbers, and sector 2 denies it where the table has entries enough
headless-denied : (t : Target) (file : File) (f : Footer) → is_dynamic file ≡ true → footer_at file 0 ≡ Some f → lacks_entries file ≡ false → header_at file ≡ None → denial_at t file 2 ≡ Some (BadFile 1)
unfolding dynamic_denials layout_at
headless-denied t file f dynamic footer enough none =
    let ends : Footer → Header → Option FileLayout = λ a h. given (nat_le (layout_of a h).blocks h.entries) (layout_of a h) in
    let lost : layout_at file ≡ None = ap (λ (o : Option Footer). o >>= (λ a. header_at file >>= ends a)) footer ∙ ap (λ (o : Option Header). o >>= ends f) none in
    rw (dynamic, enough, lost) refl

pub unread-denied : (t : Target) (file : File) (e : FieldFault) → is_dynamic file ≡ true → header_read (sector_at file 1 ++ sector_at file 2) ≡ Err e → denial_at t file 2 ≡ Some (BadFile 1)
unfolding header_at
unread-denied t file e dynamic reads =
    let f = of-kind 3 (footer_at file 0) dynamic in
    let any : any_header file ≡ None = ap (λ (r : Result Header FieldFault). result_ok r) reads in
    headless-denied t file f.0 dynamic f.1 (entries-say file f.0 None false f.1 any refl) (ap (λ (o : Option Header). o >>= without_parent) any)

pub parent-denied : (t : Target) (file : File) (sectors : ℕ) (h : Header) → is_dynamic file ≡ true → size_at file ≡ sectors → header_read (sector_at file 1 ++ sector_at file 2) ≡ Ok h → is_some h.parent ≡ true → div_up sectors (h.block / 512) ≤ h.entries
    → denial_at t file 2 ≡ Some (BadFile 1)
unfolding header_at
parent-denied t file sectors h dynamic sized reads named fits =
    let f = footer-of file sectors dynamic sized in
    let any : any_header file ≡ Some h = ap (λ (r : Result Header FieldFault). result_ok r) reads in
    let enough : exceeds f.0 h ≡ false = ap (λ n. nat_lt h.entries (div_up n (h.block / 512))) f.2 ∙ le-ltb h.entries (div_up sectors (h.block / 512)) fits in
    headless-denied t file f.0 dynamic f.1 (entries-say file f.0 (Some h) false f.1 any enough)
    (ap (λ (o : Option Header). o >>= without_parent) any ∙ ap (λ b. if b then None else Some h) named)

pub short-denied : (t : Target) (file : File) (sectors : ℕ) (h : Header) → is_dynamic file ≡ true → size_at file ≡ sectors → header_read (sector_at file 1 ++ sector_at file 2) ≡ Ok h → h.entries < div_up sectors (h.block / 512)
    → denial_at t file 2 ≡ Some (BadFile 0)
unfolding dynamic_denials
short-denied t file sectors h dynamic sized reads short =
    let f = footer-of file sectors dynamic sized in
    let any : any_header file ≡ Some h = ap (λ (r : Result Header FieldFault). result_ok r) reads in
    let few : exceeds f.0 h ≡ true = ap (λ n. nat_lt h.entries (div_up n (h.block / 512))) f.2 ∙ lt-ltb h.entries (div_up sectors (h.block / 512)) short in
    let lacks = entries-say file f.0 (Some h) true f.1 any few in
    rw (dynamic, lacks) refl
