use Rattle.cadf_pathset.proofs.Common.{◌++◌, ap, ◌∙◌, map, string_bytes, heads, sections_from}
use Rattle.cadf_join.specs.Sets as set
use Rattle.cadf_pathset.proofs.Several.{text_in, texts_of}
use Rattle.cadf_pathset.proofs.path_set.PathSet.child_texts.Goals as goal

pub loop-next-init : goal.loop-next-init
loop-next-init c =
    ap (λ ss. map string_bytes ss ++ map text_in (sections_from c.first_section-next.result)) c.new-texts.ensures.items
    ∙ ap (map text_in) c.first_section-next.ensures ∙ texts_of c.suffix_set.result ∙ ap (λ s. set.rising (heads s)) c.suffix_set.ensures
