-- One content beside another: an image comes, goes, grows or gets another name, and all other images are as they were.
-- Also the turns of a content, and chains that a walk reaches the end of.
use Rattle.std.specs.Prelude.{◌≡◌, ◌≢◌, ◌⊎◌, ℕ, suc, ◌<◌, ◌≤◌, true, List, [], Option, Some, None}
use Rattle.sm_base.specs.declared.names.Name.{Name}
use Rattle.vg_meta.specs.Tables.{Row}
use Rattle.sm_machine.specs.Shapes.{same_image, chain_limit}
use Rattle.sm_standing.specs.Checks.{children, depth}
use Rattle.sm_standing.specs.Outlines.{Outline, parent_in, outline}
use Rattle.sm_standing.specs.Contents.{Content, row, record_of}
use Rattle.sm_standing.specs.Entries.{folding, making}
use Rattle.sm_standing.specs.Images.{Image, image_of, answer_of, image_reads}
use Rattle.sm_standing.specs.Standing.{standing_volume}
use Rattle.sm_standing.specs.Answering.{ImageAnswers}

-- the turns of a content at one sector
abbrev pub turns_of : Content → ℕ → ImageAnswers
turns_of c s = λ n. answer_of s (image_of c n)

-- the parent of the image of a name
abbrev pub parent_of : Content → Name → Option Name
parent_of c n = parent_in (outline c) n

-- a chain of at most so many images as are walked
abbrev pub IsShortChain : Content → Name → Type 0
IsShortChain c n = depth (outline c) (suc chain_limit) n ≤ chain_limit

-- all images but one are the same
abbrev pub SameImagesBut : Content → Content → Name → Type 0
SameImagesBut a b x = (n : Name) → n ≢ x → image_of b n ≡ image_of a n

-- an image n over its parent p of the same size, which holds alike whatever the image holds: an empty child, or an image
-- that was copied below
pub record IsCopied (c : Content) (n p : Name) (i q : Image) : Type 0 where
  pub image : image_of c n ≡ Some i
  pub parent : i.parent ≡ Some p
  pub below : image_of c p ≡ Some q
  pub size : q.size ≡ i.size
  pub held : (s : ℕ) (bytes : List ℕ) → i.own s ≡ Some bytes → q.own s ≡ Some bytes

-- the image of x grows from i to j: it holds what it held, nothing past its old size, and its parent is not larger
pub record IsRaised (a b : Content) (x : Name) (i j : Image) : Type 0 where
  pub before : image_of a x ≡ Some i
  pub after : image_of b x ≡ Some j
  pub larger : i.size ≤ j.size
  pub parent : j.parent ≡ i.parent
  pub own : (s : ℕ) → j.own s ≡ i.own s
  pub empty : (s : ℕ) → i.size ≤ s → i.own s ≡ None
  pub fits : (p : Name) (q : Image) → i.parent ≡ Some p → image_of a p ≡ Some q → q.size ≤ i.size
  pub no_loop : i.parent ≢ Some x
  pub others : SameImagesBut a b x

-- the disk of a UUID stands in n before and in m afterwards, in images of the same size that read the same; its record
-- is the same
pub record IsMoved (a b : Content) (u : List ℕ) (n m : Name) (i j : Image) : Type 0 where
  pub stood : standing_volume a.table u ≡ Some n
  pub stands_now : standing_volume b.table u ≡ Some m
  pub before : image_of a n ≡ Some i
  pub after : image_of b m ≡ Some j
  pub size : j.size ≡ i.size
  pub same : (s : ℕ) → s < i.size → image_reads b m s ≡ image_reads a n s
  pub recorded : record_of b u ≡ record_of a u

-- b is a without the image x, which was hidden and nobody's parent; no entry is there
pub record IsRemoved (a b : Content) (x : Name) (was : Row) : Type 0 where
  pub name : same_image x x ≡ true
  pub there : row a x ≡ Some was
  pub hidden : was.hidden ≡ true
  pub childless : children (outline a) x ≡ []
  pub gone : row b x ≡ None
  pub others : (n : Name) → n ≢ x → row b n ≡ row a n
  pub images : SameImagesBut a b x
  pub recorded : (u : List ℕ) → record_of b u ≡ record_of a u
  pub none_making : making a.table ≡ []
  pub none_folding : folding a.table ≡ []
  pub still_none_making : making b.table ≡ []
  pub still_none_folding : folding b.table ≡ []

-- another name in place of a parent's
abbrev pub renamed_parent : (Name → Name) → Option Name → Option Name
renamed_parent rename None = None
renamed_parent rename (Some p) = Some (rename p)

-- each image is linked as it was, or past one image to that image's parent
abbrev pub IsLinkedUp : Outline → Outline → Type 0
IsLinkedUp a b = (n : Name) → (parent_in b n ≡ parent_in a n)
    ⊎ ((v : Name) × (p : Name) × (parent_in a n ≡ Some v) × (parent_in a v ≡ Some p) × (parent_in b n ≡ Some p))
