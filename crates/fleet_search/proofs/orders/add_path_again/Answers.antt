use Rattle.fleet_search.proofs.orders.add_path_again.Goals as goal

pub add_path-requires-clause-agent : goal.add_path-requires-clause-agent
add_path-requires-clause-agent c = c.requires.agent

pub add_path-requires-clause-tables : goal.add_path-requires-clause-tables
add_path-requires-clause-tables c = c.requires.tables

pub renew_path-requires-clause-agent : goal.renew_path-requires-clause-agent
renew_path-requires-clause-agent c = c.requires.agent

pub renew_path-requires-clause-tables : goal.renew_path-requires-clause-tables
renew_path-requires-clause-tables c = c.requires.tables
