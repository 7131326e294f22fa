use Rattle.block_list.proofs.Filling.{leads-some, leads-on}
use Rattle.block_list.proofs.tests.last_link.Goals as goal

pub link_count-requires : goal.link_count-requires
link_count-requires c = record { there = leads-some c.args.arena.now c.args.node c.requires.leads.0 c.requires.leads.1 }

pub link-requires : goal.link-requires
link-requires c = record { there = leads-some c.args.arena.now c.args.node c.requires.leads.0 c.requires.leads.1 }

pub returns-in_default : goal.returns-in_default
returns-in_default c = record {
  leads = leads-on c.args.arena.now c.args.node _ c.link.result c.requires.leads.0 c.requires.leads.1 c.link.ensures.value;
}
