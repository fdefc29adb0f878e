use Rattle.std.proofs.Common.{◌≡◌, [], ◌++◌, sym, ap, ◌∙◌}
use Rattle.tree.specs.Trees.{keep}
use Rattle.tree.specs.Questions.{directory, regular}
use Rattle.format.specs.Images.{encoded, sections_of, sections_read, together}
use Rattle.format.specs.Theorems.{AlikeHaveOneImage, ImageDecodesBack, ImageTellsTheTree}
use Rattle.format.proofs.Meaning.{sections_back, tree_back}
use Rattle.format.proofs.laws.images_tell_their_trees.Goals as goal

decodes_back : ImageDecodesBack
decodes_back t lawful small cap rest =
    let s = sections_back t lawful small rest in
    record {
      next = ap (λ z. z.next) s;
      objects = ap (λ z. together z.directories z.files) s ∙ ap (λ z. z.objects) (tree_back t lawful);
    }

one_image : AlikeHaveOneImage
one_image t u alike = λ i. encoded (record { next = alike.next i; directories = keep directory (alike.objects i); files = keep regular (alike.objects i) })

tells : ImageTellsTheTree
tells t u lawful small lawful' small' same =
    let s : sections_of t ≡ sections_of u =
    sym (sections_back t lawful small []) ∙ ap (λ bs. sections_read (bs ++ [])) same ∙ sections_back u lawful' small' [] in
    record {
      next = ap (λ z. z.next) s;
      objects = sym (ap (λ z. z.objects) (tree_back t lawful)) ∙ ap (λ z. together z.directories z.files) s ∙ ap (λ z. z.objects) (tree_back u lawful');
    }

-- src/laws.rt:4:1
pub returns : goal.returns
returns c = record { back = decodes_back; one = one_image; tells = tells }
