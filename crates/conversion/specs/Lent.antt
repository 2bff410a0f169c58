-- What the converter leaves, by the bytes that it is lent; and, for inner contracts, what is known of a valid sheet when its words are laid out anew.
use Rattle.std.specs.Prelude.{◌≡◌, Bool, List, [], ℕ, ◌+◌, ◌-◌, ◌<◌, ◌≤◌, ◌^◌, length}
use Rattle.words.specs.Bytes.{words_of}
use Rattle.words.specs.Rows.{concat, put}
use Rattle.checks.specs.Heads.{head_words, is_wide, HeadFits}
use Rattle.roads.specs.Roads.{road_at}
use Rattle.sheet.specs.declared.check.Layout as Code
use Rattle.sheet.specs.Layout.{Layout}
use Rattle.tool.specs.Tool.{Left, left}
use Rattle.conversion.specs.Relaid.{road_relaid, relaid, converted}

-- of sheet and output; of the output only how many words there are counts
abbrev pub converted_in : Bool → List ℕ → List ℕ → Left
converted_in to sheet output = left (converted to (words_of sheet)) (length (words_of sheet)) (length (words_of output))

-- the sizes and the roads, which are all that is laid out by
abbrev pub spelled : Code.Layout → Layout
spelled layout = record {
  sizes = record { places = layout.places; signals = layout.signals; samples = layout.samples };
  roads = layout.roads;
  lines = [];
}

abbrev pub relaid_in : Bool → List ℕ → Code.Layout → List ℕ
relaid_in to sheet layout = relaid to (words_of sheet) (spelled layout)

-- how many words they are
abbrev pub words_in : Bool → List ℕ → Code.Layout → ℕ
words_in to sheet layout = road_at to layout.roads + (length (words_of sheet) - layout.recording)

-- a sheet has these roads, and there is room for them in the layout; the words with the roads put behind the head, and with the whole sheet at the front
abbrev pub RoadsFit : Bool → (sheet : List ℕ) → (roads : ℕ) → (output : List ℕ) → Type 0
RoadsFit to sheet roads output = (road_at (is_wide (words_of sheet)) roads ≤ length (words_of sheet)) × (road_at to roads ≤ length (words_of output))

abbrev pub roads_put : Bool → (sheet : List ℕ) → (roads : ℕ) → (output : List ℕ) → List ℕ
roads_put to sheet roads output = put (words_of output) (head_words to) (concat (road_relaid to (words_of sheet)) roads)

abbrev pub sheet_put : Bool → (sheet : List ℕ) → Code.Layout → (output : List ℕ) → List ℕ
sheet_put to sheet layout output = put (words_of output) 0 (relaid_in to sheet layout)

pub record Ready (to : Bool) (sheet : List ℕ) (layout : Code.Layout) (output : List ℕ) : Type 0 where
  pub begins : layout.recording ≡ road_at (is_wide (words_of sheet)) layout.roads
  pub inside : layout.recording < length (words_of sheet)
  pub short : length (words_of sheet) < 2 ^ 26
  pub fits : HeadFits 1 to layout.places layout.signals layout.samples
  pub room : words_in to sheet layout ≤ length (words_of output)
