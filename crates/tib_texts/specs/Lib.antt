-- The definitions of tib_operations state what each text is. Here are those of its parts.
pub mod RuleLines
