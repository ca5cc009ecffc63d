-- What each kind asks of a tree, row by row. A member that no row names is passed over in an open object
-- and must not be there in a closed one.
use Rattle.std.specs.Prelude.{List, [], ◌∷◌, codes}
use Rattle.arz_rules.specs.declared.kinds.Kind.{Kind}
use Rattle.arz_rules.specs.Shapes as shape
use Rattle.arz_rules.specs.Shapes.{Shape, must, may, choice, open_object, closed_object, map_of, tokens_of, paths_of, list_of, filled_list_of, Case}

-- a parameter of an operation is chosen by its place
abbrev pub by_place : List Case
by_place =
    choice (codes "in") Kind.InPath Kind.PathParameter
    ∷ choice (codes "in") Kind.InQuery Kind.QueryParameter
    ∷ choice (codes "in") Kind.InHeader Kind.HeaderParameter
    ∷ choice (codes "in") Kind.InCookie Kind.CookieParameter
    ∷ []

abbrev pub form_of : Kind → Shape
-- Kinds that several documents have.
form_of Kind.Anything = shape.anything
form_of Kind.Nothing = shape.nothing
form_of Kind.Text = shape.text
form_of Kind.Flag = shape.flag
form_of Kind.Count = shape.count
form_of Kind.AnyCount = shape.any_count
form_of Kind.Solid = shape.solid
form_of Kind.AnyObject = map_of Kind.Anything
form_of Kind.Texts = list_of Kind.Text
form_of Kind.TextMap = map_of Kind.Text
form_of Kind.Info = open_object (
    must (codes "title") Kind.Text
    ∷ must (codes "version") Kind.Text
    ∷ [])
-- The setup file.
form_of Kind.Setup = closed_object (
    must (codes "arazzo") Kind.Text
    ∷ may (codes "workflow") Kind.Text
    ∷ may (codes "inputs") Kind.AnyObject
    ∷ may (codes "sources") Kind.TextMap
    ∷ may (codes "overlays") Kind.SetupOverlays
    ∷ may (codes "servers") Kind.TextMap
    ∷ may (codes "maxAttempts") Kind.Count
    ∷ may (codes "delay") Kind.Delay
    ∷ may (codes "journalLimit") Kind.Count
    ∷ [])
form_of Kind.SetupOverlays = list_of Kind.SetupOverlay
form_of Kind.SetupOverlay = closed_object (
    must (codes "path") Kind.Text
    ∷ may (codes "source") Kind.Text
    ∷ [])
form_of Kind.Delay = shape.words (codes "stop" ∷ codes "skip" ∷ [])
-- The replies file.
form_of Kind.Replies = list_of Kind.Reply
form_of Kind.Reply = shape.chosen (choice (codes "body") Kind.Anything Kind.BodyReply ∷ []) Kind.TextReply
form_of Kind.BodyReply = closed_object (
    must (codes "status") Kind.Status
    ∷ may (codes "headers") Kind.Headers
    ∷ may (codes "body") Kind.Anything
    ∷ [])
form_of Kind.TextReply = closed_object (
    must (codes "status") Kind.Status
    ∷ may (codes "headers") Kind.Headers
    ∷ may (codes "text") Kind.Text
    ∷ [])
form_of Kind.Status = shape.between 200 599
form_of Kind.Headers = tokens_of Kind.FieldValue
form_of Kind.FieldValue = shape.field_value
-- The description (Arazzo 1.0.1, section 4.6).
form_of Kind.Description = open_object (
    must (codes "arazzo") Kind.Text
    ∷ must (codes "info") Kind.Info
    ∷ must (codes "sourceDescriptions") Kind.Sources
    ∷ must (codes "workflows") Kind.Workflows
    ∷ may (codes "components") Kind.Components
    ∷ [])
form_of Kind.Sources = filled_list_of Kind.Source
form_of Kind.Source = open_object (
    must (codes "name") Kind.Text
    ∷ must (codes "url") Kind.Text
    ∷ may (codes "type") Kind.SourceType
    ∷ [])
form_of Kind.SourceType = shape.words (codes "openapi" ∷ codes "arazzo" ∷ [])
form_of Kind.Workflows = filled_list_of Kind.Workflow
form_of Kind.Workflow = open_object (
    must (codes "workflowId") Kind.Text
    ∷ must (codes "steps") Kind.Steps
    ∷ may (codes "inputs") Kind.Inputs
    ∷ may (codes "dependsOn") Kind.Texts
    ∷ may (codes "parameters") Kind.CallParameters
    ∷ may (codes "successActions") Kind.SuccessActions
    ∷ may (codes "failureActions") Kind.FailureActions
    ∷ may (codes "outputs") Kind.TextMap
    ∷ [])
form_of Kind.Inputs = shape.chosen (choice (codes "$ref") Kind.Anything Kind.InputsUse ∷ []) Kind.InputSchema
form_of Kind.InputSchema = open_object (
    may (codes "required") Kind.Texts
    ∷ [])
form_of Kind.InputsUse = open_object (
    must (codes "$ref") Kind.InputsReference
    ∷ [])
form_of Kind.InputsReference = shape.prefixed (codes "#/components/inputs/")
form_of Kind.Steps = filled_list_of Kind.Step
form_of Kind.Step = shape.chosen (choice (codes "workflowId") Kind.Anything Kind.FlowStep ∷ []) Kind.CallStep
form_of Kind.FlowStep = open_object (
    must (codes "stepId") Kind.Text
    ∷ may (codes "operationId") Kind.Text
    ∷ may (codes "operationPath") Kind.Text
    ∷ may (codes "workflowId") Kind.Text
    ∷ may (codes "parameters") Kind.FlowParameters
    ∷ may (codes "successCriteria") Kind.Criteria
    ∷ may (codes "onSuccess") Kind.SuccessActions
    ∷ may (codes "onFailure") Kind.FailureActions
    ∷ may (codes "requestBody") Kind.RequestBody
    ∷ may (codes "outputs") Kind.TextMap
    ∷ [])
form_of Kind.CallStep = open_object (
    must (codes "stepId") Kind.Text
    ∷ may (codes "operationId") Kind.Text
    ∷ may (codes "operationPath") Kind.Text
    ∷ may (codes "workflowId") Kind.Text
    ∷ may (codes "parameters") Kind.CallParameters
    ∷ may (codes "successCriteria") Kind.Criteria
    ∷ may (codes "onSuccess") Kind.SuccessActions
    ∷ may (codes "onFailure") Kind.FailureActions
    ∷ may (codes "requestBody") Kind.RequestBody
    ∷ may (codes "outputs") Kind.TextMap
    ∷ [])
form_of Kind.FlowParameters = list_of Kind.FlowParameterUse
form_of Kind.FlowParameterUse = shape.chosen (choice (codes "reference") Kind.Anything Kind.ParameterReuse ∷ []) Kind.FlowParameter
form_of Kind.FlowParameter = open_object (
    must (codes "name") Kind.Text
    ∷ must (codes "value") Kind.Anything
    ∷ may (codes "in") Kind.In
    ∷ [])
form_of Kind.CallParameters = list_of Kind.CallParameterUse
form_of Kind.CallParameterUse = shape.chosen (choice (codes "reference") Kind.Anything Kind.ParameterReuse ∷ []) Kind.CallParameter
form_of Kind.CallParameter = open_object (
    must (codes "name") Kind.Text
    ∷ must (codes "value") Kind.Anything
    ∷ must (codes "in") Kind.In
    ∷ [])
form_of Kind.In = shape.words (codes "path" ∷ codes "query" ∷ codes "header" ∷ codes "cookie" ∷ [])
form_of Kind.ParameterReuse = open_object (
    must (codes "reference") Kind.ParameterReference
    ∷ may (codes "value") Kind.Anything
    ∷ [])
form_of Kind.ParameterReference = shape.prefixed (codes "$components.parameters.")
form_of Kind.RequestBody = open_object (
    may (codes "contentType") Kind.Text
    ∷ may (codes "payload") Kind.Anything
    ∷ may (codes "replacements") Kind.Replacements
    ∷ [])
form_of Kind.Replacements = list_of Kind.Replacement
form_of Kind.Replacement = open_object (
    must (codes "target") Kind.Pointer
    ∷ must (codes "value") Kind.Anything
    ∷ [])
form_of Kind.Pointer = shape.pointer
form_of Kind.SuccessActions = list_of Kind.SuccessActionUse
form_of Kind.SuccessActionUse = shape.chosen (choice (codes "reference") Kind.Anything Kind.SuccessReuse ∷ []) Kind.SuccessAction
form_of Kind.SuccessAction = open_object (
    must (codes "name") Kind.Text
    ∷ must (codes "type") Kind.SuccessType
    ∷ may (codes "stepId") Kind.Text
    ∷ may (codes "workflowId") Kind.Text
    ∷ may (codes "retryAfter") Kind.AnyCount
    ∷ may (codes "retryLimit") Kind.AnyCount
    ∷ may (codes "criteria") Kind.Criteria
    ∷ [])
form_of Kind.SuccessType = shape.words (codes "end" ∷ codes "goto" ∷ [])
form_of Kind.SuccessReuse = open_object (
    must (codes "reference") Kind.SuccessReference
    ∷ [])
form_of Kind.SuccessReference = shape.prefixed (codes "$components.successActions.")
form_of Kind.FailureActions = list_of Kind.FailureActionUse
form_of Kind.FailureActionUse = shape.chosen (choice (codes "reference") Kind.Anything Kind.FailureReuse ∷ []) Kind.FailureAction
form_of Kind.FailureAction = open_object (
    must (codes "name") Kind.Text
    ∷ must (codes "type") Kind.FailureType
    ∷ may (codes "stepId") Kind.Text
    ∷ may (codes "workflowId") Kind.Text
    ∷ may (codes "retryAfter") Kind.AnyCount
    ∷ may (codes "retryLimit") Kind.AnyCount
    ∷ may (codes "criteria") Kind.Criteria
    ∷ [])
form_of Kind.FailureType = shape.words (codes "end" ∷ codes "goto" ∷ codes "retry" ∷ [])
form_of Kind.FailureReuse = open_object (
    must (codes "reference") Kind.FailureReference
    ∷ [])
form_of Kind.FailureReference = shape.prefixed (codes "$components.failureActions.")
form_of Kind.Criteria = list_of Kind.Criterion
form_of Kind.Criterion = shape.chosen (choice (codes "type") Kind.SimpleType Kind.PlainCriterion ∷ choice (codes "type") Kind.Anything Kind.ContextCriterion ∷ []) Kind.PlainCriterion
form_of Kind.SimpleType = shape.words (codes "simple" ∷ [])
form_of Kind.PlainCriterion = open_object (
    must (codes "condition") Kind.Text
    ∷ may (codes "context") Kind.Text
    ∷ may (codes "type") Kind.CriterionType
    ∷ [])
form_of Kind.ContextCriterion = open_object (
    must (codes "condition") Kind.Text
    ∷ must (codes "context") Kind.Text
    ∷ may (codes "type") Kind.CriterionType
    ∷ [])
form_of Kind.CriterionType = shape.words_or_object (codes "simple" ∷ codes "regex" ∷ codes "jsonpath" ∷ codes "xpath" ∷ [])
form_of Kind.Components = open_object (
    may (codes "inputs") Kind.InputSchemas
    ∷ may (codes "parameters") Kind.ParameterMap
    ∷ may (codes "successActions") Kind.SuccessActionMap
    ∷ may (codes "failureActions") Kind.FailureActionMap
    ∷ [])
form_of Kind.InputSchemas = map_of Kind.InputSchema
form_of Kind.ParameterMap = map_of Kind.FlowParameter
form_of Kind.SuccessActionMap = map_of Kind.SuccessAction
form_of Kind.FailureActionMap = map_of Kind.FailureAction
-- OpenAPI documents (OpenAPI 3.1.0, section 4.8).
form_of Kind.OpenApi = open_object (
    must (codes "openapi") Kind.Text
    ∷ may (codes "paths") Kind.Paths
    ∷ may (codes "servers") Kind.Servers
    ∷ [])
form_of Kind.Paths = paths_of Kind.PathItem
form_of Kind.PathItem = open_object (
    may (codes "get") Kind.Operation
    ∷ may (codes "put") Kind.Operation
    ∷ may (codes "post") Kind.Operation
    ∷ may (codes "delete") Kind.Operation
    ∷ may (codes "options") Kind.Operation
    ∷ may (codes "head") Kind.Operation
    ∷ may (codes "patch") Kind.Operation
    ∷ may (codes "trace") Kind.Operation
    ∷ may (codes "servers") Kind.Servers
    ∷ [])
form_of Kind.Operation = open_object (
    may (codes "operationId") Kind.Text
    ∷ may (codes "servers") Kind.Servers
    ∷ [])
form_of Kind.Servers = list_of Kind.Server
form_of Kind.Server = open_object (
    must (codes "url") Kind.Text
    ∷ may (codes "variables") Kind.Variables
    ∷ [])
form_of Kind.Variables = map_of Kind.Variable
form_of Kind.Variable = open_object (
    must (codes "default") Kind.Text
    ∷ [])
form_of Kind.OperationParameters = list_of Kind.OperationParameterUse
form_of Kind.OperationParameterUse = shape.chosen (choice (codes "$ref") Kind.Anything Kind.LocalUse ∷ by_place) Kind.OtherParameter
form_of Kind.LocalUse = open_object (
    must (codes "$ref") Kind.Text
    ∷ [])
form_of Kind.OperationParameter = shape.chosen by_place Kind.OtherParameter
form_of Kind.InPath = shape.words (codes "path" ∷ [])
form_of Kind.InQuery = shape.words (codes "query" ∷ [])
form_of Kind.InHeader = shape.words (codes "header" ∷ [])
form_of Kind.InCookie = shape.words (codes "cookie" ∷ [])
form_of Kind.PathParameter = open_object (
    must (codes "name") Kind.Text
    ∷ must (codes "in") Kind.Text
    ∷ may (codes "explode") Kind.Flag
    ∷ may (codes "style") Kind.PathStyle
    ∷ [])
form_of Kind.QueryParameter = open_object (
    must (codes "name") Kind.Text
    ∷ must (codes "in") Kind.Text
    ∷ may (codes "explode") Kind.Flag
    ∷ may (codes "style") Kind.QueryStyle
    ∷ [])
form_of Kind.HeaderParameter = open_object (
    must (codes "name") Kind.Text
    ∷ must (codes "in") Kind.Text
    ∷ may (codes "explode") Kind.Flag
    ∷ may (codes "style") Kind.HeaderStyle
    ∷ [])
form_of Kind.CookieParameter = open_object (
    must (codes "name") Kind.Text
    ∷ must (codes "in") Kind.Text
    ∷ may (codes "explode") Kind.Flag
    ∷ may (codes "style") Kind.CookieStyle
    ∷ [])
form_of Kind.OtherParameter = open_object (
    must (codes "name") Kind.Text
    ∷ must (codes "in") Kind.Text
    ∷ may (codes "explode") Kind.Flag
    ∷ may (codes "style") Kind.Nothing
    ∷ [])
form_of Kind.PathStyle = shape.words (codes "matrix" ∷ codes "label" ∷ codes "simple" ∷ [])
form_of Kind.QueryStyle = shape.words (codes "form" ∷ codes "spaceDelimited" ∷ codes "pipeDelimited" ∷ codes "deepObject" ∷ [])
form_of Kind.HeaderStyle = shape.words (codes "simple" ∷ [])
form_of Kind.CookieStyle = shape.words (codes "form" ∷ [])
form_of Kind.OperationBodyUse = shape.chosen (choice (codes "$ref") Kind.Anything Kind.LocalUse ∷ []) Kind.OperationBody
form_of Kind.OperationBody = open_object (
    must (codes "content") Kind.AnyObject
    ∷ [])
-- Overlays (Overlay 1.0.0, section 4.4).
form_of Kind.Overlay = open_object (
    must (codes "overlay") Kind.Text
    ∷ must (codes "info") Kind.Info
    ∷ must (codes "actions") Kind.OverlayActions
    ∷ [])
form_of Kind.OverlayActions = filled_list_of Kind.OverlayAction
form_of Kind.OverlayAction = open_object (
    must (codes "target") Kind.Text
    ∷ may (codes "update") Kind.Anything
    ∷ may (codes "remove") Kind.Flag
    ∷ [])
