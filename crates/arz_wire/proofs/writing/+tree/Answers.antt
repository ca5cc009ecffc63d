use Rattle.std.proofs.Common.{◌++◌, sym, ap, ◌∙◌, length, append_assoc, rules}
use Rattle.arz_json.specs.Tree.{has_form}
use Rattle.arz_json.specs.declared.tree.Json.{the_lemmas}
use Rattle.arz_json.proofs.Layers.{members_form}
use Rattle.arz_wire.specs.Spelling.{spelling, number, counted, spellings, member_spellings}
use Rattle.arz_wire.specs.Texts.{has_texts}
use Rattle.arz_wire.proofs.Layers.{spelling_list, spelling_object, spelling_text, texts_list, texts_object, pushed}
use Rattle.arz_wire.proofs.writing.+tree.Goals as goal

pub put_tree-put_members-requires : goal.put_tree-put_members-requires
put_tree-put_members-requires t c = (search (rules, the_lemmas), members_form c.in-Object.members (sym (ap has_form c.in-Object.is) ∙ c.requires))

pub put_tree-returns-in_ok-put_text-in-Text-clause-spelt : goal.put_tree-returns-in_ok-put_text-in-Text-clause-spelt
put_tree-returns-in_ok-put_text-in-Text-clause-spelt t c =
    c.in_ok-put_text-in-Text.ensures.spelt ∙ ap (λ s. c.push-in-Text.new.self.items ++ counted s) c.as_str.ensures
    ∙ pushed c.args.out.now.items _ (counted c.in-Text.text) (spelling c.args.value.now) 5 c.in_ok-push-in-Text.ensures.items (ap spelling c.in-Text.is ∙ spelling_text c.in-Text.text)

pub put_tree-returns-in_ok-put_items-in-List-clause-spelt : goal.put_tree-returns-in_ok-put_items-in-List-clause-spelt
put_tree-returns-in_ok-put_items-in-List-clause-spelt t c =
    let items = c.in-List.items in
    c.in_ok-put_items-in-List.ensures.spelt ∙ append_assoc c.push-in-List.new.self.items (number (length items)) (spellings items)
    ∙ pushed c.args.out.now.items _ (number (length items) ++ spellings items) (spelling c.args.value.now) 6 c.in_ok-push-in-List.ensures.items (ap spelling c.in-List.is ∙ spelling_list items)

pub put_tree-returns-in_ok-put_members-in-Object-clause-spelt : goal.put_tree-returns-in_ok-put_members-in-Object-clause-spelt
put_tree-returns-in_ok-put_members-in-Object-clause-spelt t c =
    let members = c.in-Object.members in
    c.in_ok-put_members-in-Object.ensures.spelt ∙ append_assoc c.push-in-Object.new.self.items (number (length members)) (member_spellings members)
    ∙ pushed c.args.out.now.items _ (number (length members) ++ member_spellings members) (spelling c.args.value.now) 7 c.in_ok-push-in-Object.ensures.items (ap spelling c.in-Object.is ∙ spelling_object members)

pub put_tree-returns-in_ok-put_items-in-List-clause-texts : goal.put_tree-returns-in_ok-put_items-in-List-clause-texts
put_tree-returns-in_ok-put_items-in-List-clause-texts t c = ap has_texts c.in-List.is ∙ texts_list c.in-List.items ∙ c.in_ok-put_items-in-List.ensures.texts

pub put_tree-returns-in_ok-put_members-in-Object-clause-texts : goal.put_tree-returns-in_ok-put_members-in-Object-clause-texts
put_tree-returns-in_ok-put_members-in-Object-clause-texts t c = ap has_texts c.in-Object.is ∙ texts_object c.in-Object.members ∙ c.in_ok-put_members-in-Object.ensures.texts
