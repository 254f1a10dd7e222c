-- The file that is opened next, among the files of all rooms.
use Rattle.std.proofs.Common.{◌≡◌, ◌+◌, ◌<◌, List, ◌∷◌, ◌++◌, length, map, get_or, sym, ap, ◌∙◌, arith, length-append}
use Rattle.std.proofs.lemmas.List.{get_or-map, length-map}
use Rattle.std.proofs.Math.Seq.{get_or-append_seam}
use Rattle.base_types.specs.Texts.{Bytes}
use Rattle.rules.specs.declared.history.Entry.{Entry}
use Rattle.restore.specs.steps.Files.{FileView}
use Rattle.room_lock.specs.Passes.{PrefixView}
use Rattle.room_lock.specs.InOrder.{opening_name}
use Rattle.room_lock.specs.steps.InOrder.{openings_of}

abbrev pub entries_in : PrefixView → List Entry
entries_in begun = begun.entries

-- these files stand before this one, whose room begins so
pub record IsNext (yielded : List FileView) (file : FileView) (begun : List PrefixView) : Type 0 where
  pub within : length yielded < length begun
  pub name : (d : PrefixView) → opening_name (get_or begun (length yielded) d).opening ≡ file.name
  pub entries : (d : PrefixView) → (get_or begun (length yielded) d).entries ≡ file.entries

pub length-files : (files : List FileView) (begun : List PrefixView) → map entries_in begun ≡ map (λ (f : FileView). f.entries) files → length begun ≡ length files
length-files files begun begins = sym (length-map begun entries_in) ∙ ap length begins ∙ length-map files (λ (f : FileView). f.entries)

pub next_file : (files yielded rest : List FileView) (file : FileView) (begun : List PrefixView)
    → map opening_name (openings_of begun) ≡ map (λ (f : FileView). f.name) files → map entries_in begun ≡ map (λ (f : FileView). f.entries) files
    → yielded ++ file ∷ rest ≡ files → IsNext yielded file begun
next_file files yielded rest file begun named begins whole =
    let n = length yielded in
    let counted : length files ≡ n + length (file ∷ rest) = sym (ap length whole) ∙ length-append yielded (file ∷ rest) in
    let among : n < length files = omega (arith, counted) in
    let within : n < length begun = omega (arith, among, length-files files begun begins) in
    let opened : n < length (openings_of begun) = omega (arith, within, length-map begun (λ (p : PrefixView). p.opening)) in
    let here : get_or files n file ≡ file = ap (λ (l : List FileView). get_or l n file) (sym whole) ∙ get_or-append_seam yielded file rest file in
    record {
      within = within;
      name = λ d.
          ap opening_name (sym (get_or-map (λ (p : PrefixView). p.opening) begun n d d.opening within))
          ∙ sym (get_or-map opening_name (openings_of begun) n d.opening file.name opened)
          ∙ ap (λ (l : List Bytes). get_or l n file.name) named
          ∙ get_or-map (λ (f : FileView). f.name) files n file file.name among ∙ ap (λ (f : FileView). f.name) here;
      entries = λ d.
          sym (get_or-map entries_in begun n d file.entries within)
          ∙ ap (λ (l : List (List Entry)). get_or l n file.entries) begins
          ∙ get_or-map (λ (f : FileView). f.entries) files n file file.entries among ∙ ap (λ (f : FileView). f.entries) here;
    }
